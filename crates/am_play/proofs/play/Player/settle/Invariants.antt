use Rattle.std.proofs.Common.{List, ◌++◌, drop}
use Rattle.am_play.specs.Playing.{Settles}
use Rattle.am_play.specs.Trace.{Happened, Grows}
use Rattle.am_play.specs.declared.play.Player.{Player}
use Rattle.am_play.proofs.play.Player.settle.Given as goal

-- what happened so far stands before what the tries that are left will bring
abbrev pub invariant-loop-awaited : goal.invariant-loop-awaited
invariant-loop-awaited g l = record {
  done : List Happened;
  grows : Grows l.fn.report l.report done;
  settles : (p : Player g.row.W.Denot) (rest : List Happened) →
      Settles g.W.AnyWorld.contents g.L.Link.answers l.self (drop l.awaited-index l.tries) p rest →
      Settles g.W.AnyWorld.contents g.L.Link.answers l.fn.self l.fn.tries p (done ++ rest);
}
