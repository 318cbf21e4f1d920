use Rattle.am_log.proofs.LawLemmas.{forgotten_kept, forgotten_told}
use Rattle.am_log.proofs.laws.forgetting_changes_nothing.Goals as goal

pub returns-clause-told : goal.returns-clause-told
returns-clause-told c = forgotten_told

pub returns-clause-kept : goal.returns-clause-kept
returns-clause-kept c = forgotten_kept
