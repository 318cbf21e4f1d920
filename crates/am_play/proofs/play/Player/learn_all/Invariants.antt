use Rattle.std.proofs.Common.{◌≡◌, List, length}
use Rattle.am_play.specs.Playing.{LearnsInRounds, in_all_rounds}
use Rattle.am_play.specs.Trace.{Happened, Grows}
use Rattle.am_play.proofs.play.Player.learn_all.Given as goal

-- the rounds so far, and what they brought
abbrev pub invariant-loop : goal.invariant-loop
invariant-loop g l = record {
  rounds : List (List Happened);
  grows : Grows l.fn.report l.report (in_all_rounds rounds);
  learns : LearnsInRounds g.W.AnyWorld.contents rounds l.fn.self l.self;
  count : length rounds ≡ l.counter;
}
