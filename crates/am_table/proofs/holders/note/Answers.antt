use Rattle.std.proofs.Common.{◌∙◌, ◌++◌, ◌∷◌, [], Bor, IsSome, List, Some, ap, map, refl, sym, ℕ}
use Rattle.std.specs.BTreeMap.{get_by}
use Rattle.std.specs.Cmp.Lexicographic.{slice_cmp}
use Rattle.std.specs.Ordering.{nat_cmp}
use Rattle.std.proofs.lemmas.Map.Text.{btree_map_updates_str}
use Rattle.am_table.proofs.HolderLemmas.{noted_label, noted_none, shown_added}
use Rattle.am_table.proofs.holders.note.Goals as goal

pub returns-in_default : goal.returns-in_default
returns-in_default c =
    rw c.get_mut.follows.holds-at-none (noted_none c.args.held.now c.args.place c.args.label.now c.as_str.result.now (sym c.as_str.ensures) c.in_default.ensures.value)

pub returns : goal.returns
returns c =
    let before = c.in-Some.holders.now in
    let after = c.add.new.self in
    let name = c.as_str.result.now in
    let label = c.args.label.now in
    let place = c.args.place in
    let later = c.get_mut.follows.lender after in
    let written = c.get_mut.follows.holds after in
    let there : IsSome (get_by (λ key. slice_cmp nat_cmp name key.now) c.args.held.now) = rw (← c.in-Some.ensures.value) refl in
    noted_label c.args.held.now later name after (btree_map_updates_str name c.args.held.now later (Some after) (written.3 there))
    place label before (sym c.as_str.ensures) c.in-Some.ensures.value
    (shown_added before after place label.value c.in_ok-add.ensures.places
    (c.in_ok-add.ensures.values ∙ ap (λ v. map (λ (x : Bor (List ℕ)). x.now) before.values.items ++ v ∷ []) c.as_str-2.ensures))
