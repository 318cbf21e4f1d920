use Rattle.std.proofs.Common.{◌≡◌, ◌-◌, ◌^◌, ◌<◌, ◌++◌, ◌∷◌, [], ℕ, true, ap, sym, ◌∙◌, length, min, arith}
use Rattle.std.specs.List.{slice_range}
use Rattle.am_wire.proofs.Parts.{there_is}
use Rattle.am_transfer.specs.Pieces.{Piece, size_of}
use Rattle.am_transfer.proofs.Cuts.{cut_all, cut_anew, cut_in, room_is, size_at}
use Rattle.am_transfer.proofs.cutting.cut.Goals.{then-has_room, else-has_room+in_ok-piece_of+in_ok-push}
use Rattle.am_transfer.proofs.cutting.cut.Goals as goal

pub loop-place-preserved : goal.loop-place-preserved
loop-place-preserved c =
    let xs = c.args.held.now in
    let i = c.loop-place.place in
    let low : i < length xs = omega (arith, c.loop-place-test.true, c.len-end.ensures) in
    let it = there_is xs i low in
    let x = it.0 in
    let so_far = c.loop-place.invariant in
    let is : c.spelled_at-size.result ≡ min (size_of x) (2 ^ 64 - 1) = size_at xs i c.spelled_at-size.result x it.1 c.spelled_at-size.ensures in
    let room = room_is xs i c.loop-place.pieces.items c.loop-place.start c.loop-place.bytes c.spelled_at-size.result x (omega arith) so_far is in
    elim c.if-has_room.branch [
      | then-has_room w ↦ rw (w.pieces-is, w.start-is, w.bytes-is, w.saturating_add-bytes.ensures)
          (cut_in xs i c.loop-place.pieces.items c.loop-place.start c.loop-place.bytes c.spelled_at-size.result x low it.1 so_far is
          (sym room ∙ sym c.has_room.ensures ∙ w.if-has_room.true))
      | else-has_room+in_ok-piece_of+in_ok-push w ↦ rw (w.pieces-is, w.start-is, w.bytes-is, w.in_ok-push.ensures.items, w.in_ok-piece_of.ensures)
          (cut_anew xs i c.loop-place.pieces.items c.loop-place.start c.loop-place.bytes c.spelled_at-size.result x low it.1 so_far is
          (sym room ∙ sym c.has_room.ensures ∙ w.if-has_room.false))
    ]

pub returns : goal.returns
returns c =
    let xs = c.args.held.now in
    let start = c.loop-place.start in
    let at : c.loop-place.place ≡ length xs = omega (arith, c.loop-place-test.false, c.len-end.ensures) in
    let last : ℕ → Piece = λ n. record { place = start; is_last = true; items = slice_range xs start n } in
    c.in_ok-push-2.ensures.items
    ∙ ap (λ (piece : Piece). c.loop-place.pieces.items ++ piece ∷ []) (c.in_ok-piece_of-2.ensures ∙ ap last c.len-end.ensures)
    ∙ cut_all xs c.loop-place.place c.loop-place.pieces.items start c.loop-place.bytes at c.loop-place.invariant
