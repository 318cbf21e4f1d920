use Rattle.am_draft.proofs.Rooted.{text_rooted, document_rooted}
use Rattle.am_draft.proofs.laws.roots_have_receivers.Goals as goal

pub returns-clause-text : goal.returns-clause-text
returns-clause-text c = λ text draft e. (text_rooted text draft e).1

pub returns-clause-document : goal.returns-clause-document
returns-clause-document c = λ document draft e. (document_rooted document draft e).1
