use Rattle.std.proofs.Common.{take}
use Rattle.am_world.specs.Posting.{AreFiled, LosesAll}
use Rattle.am_world.proofs.posting.lose_all.Given as goal

abbrev pub invariant-loop-output : goal.invariant-loop-output
invariant-loop-output l = record {
  lost : LosesAll (take l.output-index l.told) l.fn.messages l.messages;
  filed : AreFiled l.fn.messages → AreFiled l.messages;
}
