use Rattle.std.proofs.Common.{◌≡◌, Bool}
use Rattle.std.specs.Slice.Iter.{chunks_rest, chunks_size}
use Rattle.am_play.specs.Playing.{Crosses}
use Rattle.am_play.proofs.mailing.carry.Given as goal

-- what becomes of the rest becomes of all
abbrev pub invariant-loop-piece : goal.invariant-loop-piece
invariant-loop-piece g l = record {
  can_next : (goal.iterator-loop-piece g).can_next l.piece-iterator;
  is_finite : (goal.iterator-loop-piece g).is_finite l.piece-iterator;
  size : chunks_size l.piece-iterator ≡ 4096;
  crosses : (came : Bool) → Crosses g.L.Link.carries (chunks_rest l.piece-iterator) came →
      Crosses g.L.Link.carries l.fn.bytes came;
}
