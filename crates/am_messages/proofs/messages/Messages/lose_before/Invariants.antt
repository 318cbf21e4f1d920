use Rattle.std.proofs.Common.{◌≡◌}
use Rattle.std.specs.BTreeSet.{btree_set_len}
use Rattle.am_messages.specs.declared.name.MessageName.{MessageName}
use Rattle.am_messages.specs.Posted.{AreTimed, posted_at, unlost}
use Rattle.am_messages.proofs.messages.Messages.lose_before.Given as goal

-- each message that is left has its lapse, and what has gone is lost
abbrev pub invariant-loop-lapse : goal.invariant-loop-lapse
invariant-loop-lapse l = record {
  timed : AreTimed l.self-inside.sent.entries l.self-inside.lapses;
  left : (name : MessageName) → unlost l.now (posted_at name l.self-inside.sent.entries) ≡ unlost l.now (posted_at name l.fn.self);
}

abbrev pub decreases-loop-lapse : goal.decreases-loop-lapse
decreases-loop-lapse l = btree_set_len l.self-inside.lapses
