use Rattle.std.proofs.Common.{ap, ◌∙◌}
use Rattle.am_text.specs.Outcome.{outcome_map}
use Rattle.am_match.specs.Checking.{meaning_of, unless_refused}
use Rattle.am_match.proofs.CheckingLemmas.{patterns_pass}
use Rattle.am_config.proofs.Readings.{reads_is}
use Rattle.am_query.specs.Queries.{judged}
use Rattle.am_query.specs.declared.refusal.QueryRefusal.TheVariants.{BadMatcher}
use Rattle.am_query.proofs.QueryLemmas.{filter_refused}
use Rattle.am_query.proofs.query.filter_judged.Goals as goal

pub returns-in-Ok-clause-read : goal.returns-in-Ok-clause-read
unfolding judged
returns-in-Ok-clause-read c =
    ap (outcome_map BadMatcher)
    (ap meaning_of c.in-Ok.ensures.matchers ∙ ap (λ refusal. unless_refused refusal c.in-Ok.matchers.items) (patterns_pass _ c.in-Ok.ensures.patterns))

pub returns-in-Ok-clause-passes : goal.returns-in-Ok-clause-passes
returns-in-Ok-clause-passes c = reads_is _ _ c.in-Ok.ensures.read

pub returns-in-Ok-clause-built : goal.returns-in-Ok-clause-built
returns-in-Ok-clause-built c = rw c.in-Ok.ensures.matchers c.in-Ok.ensures.built

pub returns-in-Err-Refused-clause-failure : goal.returns-in-Err-Refused-clause-failure
returns-in-Err-Refused-clause-failure c = rw c.in-Err-Refused.field-0-is at c.in-Err-Refused.ensures.failure

pub returns-in-Err-Refused-clause-read : goal.returns-in-Err-Refused-clause-read
returns-in-Err-Refused-clause-read c =
    filter_refused c.args.value.now _ _ c.in-Err-Refused.refusal (rw c.in-Err-Refused.field-0-is at c.in-Err-Refused.ensures.failure)
    (rw c.in-Err-Refused.field-0-is at c.in-Err-Refused.ensures.meaning)
