use Rattle.std.proofs.Common.{◌≡◌, ◌∙◌, [], ℕ, Global, Vec, ap, rules}
use Rattle.std.specs.BTreeMap.{is_at}
use Rattle.std.specs.BTreeMap.Entry.{map_with_value}
use Rattle.std.specs.Map.{lookup}
use Rattle.std.specs.Option.{unwrap_or}
use Rattle.am_group_list.specs.Groups.{listed_cmp}
use Rattle.am_group_list.specs.Places.{places_by}
use Rattle.am_group_list.proofs.Under.{found_places, grouped_same, look_places, put_one}
use Rattle.am_group_list.proofs.grouping.put.Goals as goal

pub returns : goal.returns
returns c =
    let old = c.args.grouped.now.entries in
    let group = c.args.group in
    let now : Vec ℕ Global = c.push.new.self in
    let after = map_with_value c.in_ok-grouped.field-0 now in
    let was = c.or_insert-places.result.now in
    let found : was.items ≡ unwrap_or (lookup (is_at (listed_cmp group)) (places_by old)) [] =
    ap (λ (v : Vec ℕ Global). v.items) (c.or_insert-places.ensures.value ∙ ap (λ o. unwrap_or o c.new.result) c.in_ok-grouped.ensures.value)
    ∙ found_places old group c.new.result c.new.ensures.items in
    λ pairs so_far.
    grouped_same _ after.entries pairs group c.args.place
    (put_one (places_by old) (places_by after.entries) pairs group c.args.place was.items now.items so_far found c.in_ok-push.ensures.items
    (look_places old after.entries group now (c.in_ok-grouped.ensures.update.0 now).0))
    (search rules)
