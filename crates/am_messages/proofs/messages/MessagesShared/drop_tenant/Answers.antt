use Rattle.am_messages.proofs.Dropping.{dropped}
use Rattle.am_messages.proofs.messages.MessagesShared.drop_tenant.Goals as goal

pub returns-clause-dropped : goal.returns-clause-dropped
returns-clause-dropped c = λ was stands t. rw (c.leave.ensures.left, ← c.self.view_is) (dropped c.args.tenant.now c.self.inside.sent.entries t)
