use Rattle.am_payload.proofs.webhook.end_member.Goals as goal

pub returns-then-told : goal.returns-then-told
returns-then-told c = rw c.if-told.true c.string_member.ensures
