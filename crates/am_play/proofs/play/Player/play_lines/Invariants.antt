use Rattle.std.proofs.Common.{◌+◌, ◌-◌, ◌^◌, ◌≤◌, List}
use Rattle.std.specs.Io.Iter.{u64_saturate}
use Rattle.std.specs.Io.KnownBytes.{Appends}
use Rattle.am_play.specs.Trace.{Happened, printed}
use Rattle.am_play.proofs.ScenarioLemmas.{Upto}
use Rattle.am_play.proofs.play.Player.play_lines.Given as goal

abbrev pub decreases-loop-source : goal.decreases-loop-source
decreases-loop-source g l = u64_saturate (g.S.Source.to_come l.source)

abbrev pub invariant-loop-source : goal.invariant-loop-source
invariant-loop-source g l = record {
  count : l.number + u64_saturate (g.S.Source.to_come l.source) ≤ 2 ^ 64 - 1;
  trace : List Happened;
  appends : Appends (g.K.Sink.contents l.fn.writer) (g.K.Sink.contents l.writer) (printed trace);
  upto : Upto g.W.AnyWorld.contents g.L.Link.carries g.L.Link.answers l.fn.self (g.S.Source.lines l.fn.source) l.self
      (g.S.Source.lines l.source) l.number trace;
}
