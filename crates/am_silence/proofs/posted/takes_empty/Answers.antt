use Rattle.std.proofs.Common.{inl, refl}
use Rattle.am_match.specs.Matchers.{patterns_of}
use Rattle.am_silence.proofs.DecidingLemmas.{asked_again}
use Rattle.am_silence.proofs.PostedLemmas.{refused_asked}
use Rattle.am_silence.proofs.posted.takes_empty.Goals as goal

pub returns-in-Err-Refused-clause-unbuilt : goal.returns-in-Err-Refused-clause-unbuilt
returns-in-Err-Refused-clause-unbuilt c = (
  inl refl,
  refused_asked c.taken_by_all.new.cache.refused (patterns_of c.args.matchers.now) c.in-Err-Refused.field-0 c.in-Err-Refused.field-0-0
      c.in-Err-Refused.field-0-is (c.in-Err-Refused.ensures.meaning c.requires.patterns),
)

pub returns-in-Err-Refused-clause-first : goal.returns-in-Err-Refused-clause-first
returns-in-Err-Refused-clause-first c =
    asked_again c.args.matchers.now c.args.cache.now c.taken_by_all.new.cache c.in-Err-Refused.field-0-0 c.requires.fine c.requires.patterns
    (rw c.in-Err-Refused.field-0-is at c.in-Err-Refused.ensures.failure)
