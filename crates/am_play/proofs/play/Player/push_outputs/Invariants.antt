use Rattle.std.proofs.Common.{◌≡◌, ◌++◌, take, string_bytes}
use Rattle.std.specs.List.{flat_map}
use Rattle.am_play.specs.Trace.{output_line}
use Rattle.am_report.specs.Tries.{tries_in}
use Rattle.am_play.proofs.play.Player.push_outputs.Given as goal

abbrev pub invariant-loop-output : goal.invariant-loop-output
invariant-loop-output g l = record {
  text : string_bytes l.report.text ≡ string_bytes l.fn.report.text ++ flat_map (output_line l.fn.self.connections)
      (take l.output-index l.output-items);
  tries : l.report.tries.items ≡ l.fn.report.tries.items ++ tries_in (take l.output-index l.output-items);
}
