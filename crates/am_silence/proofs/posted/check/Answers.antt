use Rattle.std.proofs.Common.{ap}
use Rattle.am_text.specs.Outcome.{outcome_map}
use Rattle.am_match.specs.Checking.{unless_refused}
use Rattle.am_match.specs.Matchers.{patterns_of}
use Rattle.am_match.proofs.CheckingLemmas.{patterns_pass}
use Rattle.am_silence.specs.declared.refusal.SilenceRefusal.TheVariants.{BadMatcher}
use Rattle.am_silence.proofs.BuildLemmas.{patterns_refused}
use Rattle.am_silence.proofs.DecidingLemmas.{fine_passed, patterns_decide}
use Rattle.am_silence.proofs.posted.check.Goals as goal

pub returns-in-Ok-clause-read : goal.returns-in-Ok-clause-read
returns-in-Ok-clause-read c =
    ap (outcome_map BadMatcher)
    (ap (λ refusal. unless_refused refusal c.args.matchers.now) (patterns_pass _ c.in-Ok.ensures.patterns))

pub returns-in-Err-Refused-clause-read : goal.returns-in-Err-Refused-clause-read
returns-in-Err-Refused-clause-read c =
    patterns_refused (tt {0}) c.args.matchers.now (patterns_of c.args.matchers.now) c.args.cache.now c.check_patterns.new.cache c.in-Err-Refused.refusal
    (rw c.in-Err-Refused.field-0-is at c.in-Err-Refused.ensures.failure)
    (rw c.in-Err-Refused.field-0-is at c.in-Err-Refused.ensures.meaning)

pub returns-in-Ok-clause-fine : goal.returns-in-Ok-clause-fine
returns-in-Ok-clause-fine c = fine_passed (patterns_of c.args.matchers.now) c.in-Ok.ensures.read

pub returns-in-Err-Refused-clause-first : goal.returns-in-Err-Refused-clause-first
returns-in-Err-Refused-clause-first c =
    patterns_decide (patterns_of c.args.matchers.now) c.args.cache.now c.check_patterns.new.cache c.in-Err-Refused.refusal
    (rw c.in-Err-Refused.field-0-is at c.in-Err-Refused.ensures.failure)
