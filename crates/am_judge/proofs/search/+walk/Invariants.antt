use Rattle.std.proofs.Common.{◌≡◌, drop}
use Rattle.serde_json.specs.View.{items_view, members_view}
use Rattle.am_judge.specs.Search.{checked_items, checked_members}
use Rattle.am_judge.proofs.search.+walk.Given as goal

abbrev pub invariant-check_members-loop-key : goal.invariant-check_members-loop-key
invariant-check_members-loop-key l =
    checked_members l.facts l.place l.kind (members_view l.key-iterator)
    ≡ checked_members l.facts l.place l.kind (members_view l.members.entries)

abbrev pub invariant-check_items-loop-number : goal.invariant-check_items-loop-number
invariant-check_items-loop-number l =
    checked_items l.facts l.place l.kind l.number (items_view (drop l.number l.items.items))
    ≡ checked_items l.facts l.place l.kind 0 (items_view l.items.items)
