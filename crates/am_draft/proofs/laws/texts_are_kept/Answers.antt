use Rattle.am_draft.proofs.Rooted.{text_kept}
use Rattle.am_draft.proofs.laws.texts_are_kept.Goals as goal

pub returns : goal.returns
returns c = text_kept
