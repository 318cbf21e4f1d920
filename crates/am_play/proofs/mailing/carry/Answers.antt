use Rattle.std.proofs.Common.{◌≡◌, ◌∙◌, true, false, [], arith}
use Rattle.std.proofs.lemmas.List.{nil_from_length}
use Rattle.std.specs.Slice.Iter.{chunks_rest, chunks_size}
use Rattle.am_play.specs.Playing.{is_piece}
use Rattle.am_play.proofs.MailLemmas.{crosses_lost, crosses_more, crosses_nothing}
use Rattle.am_play.proofs.PlayingLemmas.{piece_fits}
use Rattle.am_play.proofs.mailing.carry.Goals as goal

pub returns-then-not-carry : goal.returns-then-not-carry
returns-then-not-carry g c =
    let known = c.loop-piece.invariant in
    let steps = c.in-Some.ensures.steps in
    let piece = c.in-Some.piece.now in
    let fits : is_piece piece ≡ true = piece_fits _ piece _ known.size steps.1.1 steps.1.2 in
    known.crosses false (rw steps.1.0 (crosses_lost g.L.Link.carries piece _ fits c.if-not-carry.ensures))

pub loop-piece-preserved : goal.loop-piece-preserved
loop-piece-preserved g c =
    let known = c.loop-piece.invariant in
    let steps = c.in-Some.ensures.steps in
    let piece = c.in-Some.piece.now in
    let size : chunks_size c.next.new.self ≡ 4096 = steps.0 ∙ known.size in
    let fits : is_piece piece ≡ true = piece_fits _ piece _ known.size steps.1.1 steps.1.2 in
    record {
      can_next = omega (arith, size);
      is_finite = tt;
      size = size;
      crosses = λ came rest. known.crosses came
          (rw steps.1.0 (crosses_more g.L.Link.carries piece _ came fits c.if-not-carry.ensures rest));
    }

pub returns : goal.returns
returns g c =
    let known = c.loop-piece.invariant in
    let none : chunks_rest c.loop-piece.piece-iterator ≡ [] = nil_from_length _ c.in-None.ensures.steps.1.0 in
    known.crosses true (rw none (crosses_nothing g.L.Link.carries))
