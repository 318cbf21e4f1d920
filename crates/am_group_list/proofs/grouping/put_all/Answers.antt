use Rattle.std.proofs.Common.{◌∷◌, ◌++◌, ◌∙◌, [], ℕ, ap, append-nil, append_assoc, map, subst, sym}
use Rattle.std.proofs.lemmas.List.{map-append}
use Rattle.am_group_list.specs.declared.group.ListedGroup.{ListedGroup}
use Rattle.am_group_list.specs.Places.{AreGrouped, places_by}
use Rattle.am_group_list.proofs.grouping.put_all.Goals as goal

pub loop-group-init : goal.loop-group-init
loop-group-init c = λ pairs so_far. subst (AreGrouped (places_by c.args.grouped.now.entries)) (sym (append-nil pairs)) so_far

pub loop-group-preserved : goal.loop-group-preserved
loop-group-preserved c =
    let at_place : ListedGroup → ListedGroup × ℕ = λ g. (g, c.args.place) in
    let before = c.loop-group.yielded in
    λ pairs so_far.
    subst (AreGrouped (places_by c.put.new.grouped.entries))
    (append_assoc pairs (map at_place before) (at_place c.in-Some.group ∷ []) ∙ ap (λ rest. pairs ++ rest) (sym (map-append at_place before (c.in-Some.group ∷ []))))
    (c.in_ok-put.ensures (pairs ++ map at_place before) (c.loop-group.invariant pairs so_far))
