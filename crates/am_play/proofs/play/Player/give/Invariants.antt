use Rattle.std.proofs.Common.{◌≡◌, List, ◌++◌}
use Rattle.std.specs.Slice.Iter.{chunks_rest, chunks_size}
use Rattle.am_play.specs.Playing.{Gives}
use Rattle.am_play.specs.Trace.{Happened, Grows}
use Rattle.am_play.specs.declared.play.Player.{Player}
use Rattle.am_play.proofs.play.Player.give.Given as goal

-- what happened so far stands before what the rest of the bytes will bring
abbrev pub invariant-loop-piece : goal.invariant-loop-piece
invariant-loop-piece g l = record {
  can_next : (goal.iterator-loop-piece g).can_next l.piece-iterator;
  is_finite : (goal.iterator-loop-piece g).is_finite l.piece-iterator;
  size : chunks_size l.piece-iterator ≡ 4096;
  done : List Happened;
  grows : Grows l.fn.report l.report done;
  gives : (p : Player g.row.W.Denot) (rest : List Happened) →
      Gives g.W.AnyWorld.contents g.L.Link.carries l.fn.connection l.self (chunks_rest l.piece-iterator) p rest →
      Gives g.W.AnyWorld.contents g.L.Link.carries l.fn.connection l.fn.self l.fn.bytes p (done ++ rest);
}
