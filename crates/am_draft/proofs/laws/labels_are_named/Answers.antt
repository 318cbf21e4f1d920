use Rattle.am_draft.proofs.LabelNames.{text_named, document_named}
use Rattle.am_draft.proofs.laws.labels_are_named.Goals as goal

pub returns-clause-text : goal.returns-clause-text
returns-clause-text c = λ text draft e. text_named text draft e

pub returns-clause-document : goal.returns-clause-document
returns-clause-document c = λ document draft e. document_named document draft e
