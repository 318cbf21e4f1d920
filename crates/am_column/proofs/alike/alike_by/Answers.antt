use Rattle.std.proofs.Common.{◌≡◌, ◌∙◌, [], ℕ, Bor, List, get_or, map}
use Rattle.std.proofs.lemmas.List.{get_or_default}
use Rattle.std.proofs.lemmas.Map.Text.{btree_map_updates_str}
use Rattle.am_column.proofs.AlikeLemmas.{alike_put, at_itself, firsts_put, place_at}
use Rattle.am_column.proofs.alike.alike_by.Goals.{then-is_none+in_ok-insert, else-is_none}
use Rattle.am_column.proofs.alike.alike_by.Goals as goal

pub loop-place-preserved : goal.loop-place-preserved
loop-place-preserved c =
    let xs = c.args.values.now in
    let values = map (λ value. value.now) xs in
    let i = c.loop-place.place in
    let none : Bor (List ℕ) = record { ref_ptr = (0, 0); now = [] } in
    let x = get_or xs i none in
    let is : x ≡ get_or xs i x = get_or_default xs i none x c.loop-place-test.true in
    let at = at_itself (λ value. value.now) xs i x c.loop-place-test.true is in
    let here = place_at values c.loop-place.firsts i x.now c.loop-place.invariant.0 at c.copied-first.result (c.copied-first.ensures ∙ c.get.ensures.value) in (
      elim c.if-is_none.branch [
        | then-is_none+in_ok-insert w ↦
            rw w.firsts-is
            (firsts_put values c.loop-place.firsts w.insert.new.self i x.now c.loop-place.invariant.0 at
            (btree_map_updates_str x.now c.loop-place.firsts w.insert.new.self _ w.in_ok-insert.ensures.updates))
        | else-is_none w ↦ rw w.firsts-is c.loop-place.invariant.0
      ],
      rw (c.in_ok-push.ensures.items, c.unwrap_or.ensures)
          (alike_put (λ value. value.now) xs i x c.loop-place-test.true is c.loop-place.places.items _ c.loop-place.invariant.1 here),
    )
