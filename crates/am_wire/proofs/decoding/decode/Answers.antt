use Rattle.std.proofs.Common.{subst, ap, ◌∙◌, Result}
use Rattle.am_text.specs.Outcome.{Gives}
use Rattle.am_wire.specs.declared.refusal.WireRefusal.{WireRefusal}
use Rattle.am_wire.specs.Messages.{message_of}
use Rattle.am_wire.specs.declared.message.Message.{Message}
use Rattle.am_wire.proofs.MessagesAgain.{message_of_spelling}
use Rattle.am_wire.proofs.decoding.decode.Goals as goal

pub returns-clause-spelled : goal.returns-clause-spelled
returns-clause-spelled c =
    λ m spells. subst (λ (outcome : Result Message WireRefusal). Gives (λ message. message) c.read_all.result outcome)
    (ap message_of spells.bytes_are ∙ message_of_spelling m spells.valid spells.short) c.read_all.ensures.read
