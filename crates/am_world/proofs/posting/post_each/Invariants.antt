use Rattle.std.proofs.Common.{take}
use Rattle.am_world.specs.Posting.{AreFiled, Posts}
use Rattle.am_world.proofs.posting.post_each.Given as goal

abbrev pub invariant-loop-output : goal.invariant-loop-output
invariant-loop-output l = record {
  posts : Posts l.moment (take l.output-index l.told) l.fn.messages l.messages;
  filed : AreFiled l.fn.messages → AreFiled l.messages;
}
