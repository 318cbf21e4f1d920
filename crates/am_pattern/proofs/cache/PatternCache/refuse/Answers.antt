use Rattle.am_pattern.proofs.ReadLemmas.{pattern-shallow, unshallow-pattern, reason-unshallow}
use Rattle.am_pattern.proofs.NotedLemmas.{noted_there}
use Rattle.am_pattern.proofs.AskingLemmas.{refused-rightly}
use Rattle.am_pattern.specs.declared.refusal.PatternRefusal.TheVariants.{BadPattern, BuildRefused}
use Rattle.am_pattern.proofs.cache.PatternCache.refuse.Goals as goal

pub returns-in-NotRead-clause-refusal : goal.returns-in-NotRead-clause-refusal
returns-in-NotRead-clause-refusal c =
    let none = rw c.in-NotRead.is at c.requires in
    (unshallow-pattern c.args.pattern.now none, λ pattern. absurd (none pattern))

pub returns-in-TooDeep-clause-reason : goal.returns-in-TooDeep-clause-reason
returns-in-TooDeep-clause-reason c = reason-unshallow c.args.pattern.now (rw c.in-TooDeep.is at c.requires)

pub returns-in-TooDeep-clause-refusal : goal.returns-in-TooDeep-clause-refusal
returns-in-TooDeep-clause-refusal c =
    (rw c.in-TooDeep.is at c.requires, λ pattern. rw c.in_ok-hold.ensures.ok (noted_there c.args.self.now.refused c.args.pattern.now pattern))

pub returns-in-TooDeep-clause-meaning : goal.returns-in-TooDeep-clause-meaning
returns-in-TooDeep-clause-meaning c =
    refused-rightly c.hold.new.self c.args.pattern.now BadPattern (returns-in-TooDeep-clause-refusal c)

pub returns-in-TooBig-clause-reason : goal.returns-in-TooBig-clause-reason
returns-in-TooBig-clause-reason c = pattern-shallow c.args.pattern.now (rw c.in-TooBig.is at c.requires)

pub returns-in-TooBig-clause-refusal : goal.returns-in-TooBig-clause-refusal
returns-in-TooBig-clause-refusal c =
    let pattern = returns-in-TooBig-clause-reason c in
    (rw c.in-TooBig.is at c.requires, pattern, rw c.in_ok-hold.ensures.ok (noted_there c.args.self.now.refused c.args.pattern.now pattern))

pub returns-in-TooBig-clause-meaning : goal.returns-in-TooBig-clause-meaning
returns-in-TooBig-clause-meaning c =
    refused-rightly c.hold.new.self c.args.pattern.now BuildRefused (returns-in-TooBig-clause-refusal c)
