use Rattle.am_draft.specs.Drafts.{draft_in, posted}
use Rattle.am_draft.proofs.LabelNames.{text_named, document_named}
use Rattle.am_draft.proofs.Rooted.{text_rooted, document_rooted}
use Rattle.am_config.proofs.Configured.{configuration_holds}
use Rattle.am_config.proofs.laws.meanings_are_configurations.Goals as goal

pub returns-clause-text : goal.returns-clause-text
returns-clause-text c = λ text made e. configuration_holds (draft_in text) (text_rooted text) (text_named text) made e

pub returns-clause-document : goal.returns-clause-document
returns-clause-document c = λ document made e. configuration_holds (posted document) (document_rooted document) (document_named document) made e
