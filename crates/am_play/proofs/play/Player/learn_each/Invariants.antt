use Rattle.std.proofs.Common.{List, ◌++◌, drop}
use Rattle.am_play.specs.Playing.{LearnsEach}
use Rattle.am_play.specs.Trace.{Happened, Grows}
use Rattle.am_play.specs.declared.play.Player.{Player}
use Rattle.am_play.proofs.play.Player.learn_each.Given as goal

-- what happened so far stands before what the instances that are left will bring
abbrev pub invariant-loop-number : goal.invariant-loop-number
invariant-loop-number g l = record {
  done : List Happened;
  grows : Grows l.fn.report l.report done;
  learns : (p : Player g.row.W.Denot) (rest : List Happened) →
      LearnsEach g.W.AnyWorld.contents (drop l.number-index l.numbers) l.self p rest →
      LearnsEach g.W.AnyWorld.contents l.fn.numbers l.fn.self p (done ++ rest);
}
