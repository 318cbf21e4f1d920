use Rattle.am_config.proofs.Readings.{reread_given, reread_reads, reread_refused}
use Rattle.am_config.proofs.matching.reread_text.Goals as goal

pub returns-clause-matchers : goal.returns-clause-matchers
returns-clause-matchers c = rw c.refuse_as.ensures (reread_given _ _ c.reread_matchers.result c.reread_matchers.ensures)

pub returns-clause-read : goal.returns-clause-read
returns-clause-read c = rw c.refuse_as.ensures (reread_reads _ _ c.reread_matchers.result c.reread_matchers.ensures)

pub returns-clause-refusal : goal.returns-clause-refusal
returns-clause-refusal c = rw c.refuse_as.ensures (reread_refused _ _ c.reread_matchers.result c.reread_matchers.ensures)
