use Rattle.am_draft.specs.Drafts.{draft_in, posted}
use Rattle.am_config.proofs.Judgements.{reading_meant}
use Rattle.am_config.proofs.laws.readings_are_meant.Goals as goal

pub returns-clause-text : goal.returns-clause-text
returns-clause-text c = λ text made e. reading_meant (draft_in text) made e

pub returns-clause-document : goal.returns-clause-document
returns-clause-document c = λ document made e. reading_meant (posted document) made e
