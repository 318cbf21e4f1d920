use Rattle.std.proofs.Common.{sym, append-nil}
use Rattle.am_match.specs.Matchers.{patterns_of}
use Rattle.am_config.proofs.Readings.{given_is, reads_is}
use Rattle.am_config.proofs.Stops.{stop_refused}
use Rattle.am_config.proofs.matching.read_text.Goals as goal

pub returns-in-Ok-clause-matchers : goal.returns-in-Ok-clause-matchers
returns-in-Ok-clause-matchers c = sym (given_is _ _ c.in-Ok.ensures.read)

pub returns-in-Ok-clause-read : goal.returns-in-Ok-clause-read
returns-in-Ok-clause-read c = reads_is _ _ c.in-Ok.ensures.read

pub returns-in-Ok-clause-built : goal.returns-in-Ok-clause-built
returns-in-Ok-clause-built c =
    rw (c.in-Ok.ensures.matchers, append-nil (patterns_of c.in-Ok.matchers.items)) c.in-Ok.ensures.built

pub returns-in-Err-Refused-clause-stop : goal.returns-in-Err-Refused-clause-stop
returns-in-Err-Refused-clause-stop c =
    rw c.of_matcher.ensures (stop_refused _ _ _ _ c.in-Err-Refused.refusal c.in-Err-Refused.field-0-is c.in-Err-Refused.ensures.failure)
