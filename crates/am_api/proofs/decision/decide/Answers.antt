use Rattle.am_pattern.specs.Refused.{IsRefusedRightly}
use Rattle.am_pattern.specs.Taking.{IsPattern}
use Rattle.am_listing.specs.Failing.{patterns_in_use}
use Rattle.am_api.specs.Decision.{decided}
use Rattle.am_api.specs.Patterns.{patterns_of_request}
use Rattle.am_api.specs.Refusing.{Refuses, stored_asked}
use Rattle.am_api.proofs.Builds.{all_asked, decides_in_use, decides_rightly, in_use_decides}
use Rattle.am_api.proofs.decision.decide.Goals as goal

pub returns-clause-refuses : goal.returns-clause-refuses
returns-clause-refuses c =
    in_use_decides c.args.cache.now c.decide_by.new.cache (patterns_in_use c.args.config.now c.args.moment c.args.held.now) c.decide_by.result
    c.args.request.now c.args.held.now c.args.limits c.args.moment c.args.maker c.args.words c.args.config.now c.requires c.decide_by.ensures.decides

pub returns-clause-decides : goal.returns-clause-decides
returns-clause-decides c =
    let in_use = patterns_in_use c.args.config.now c.args.moment c.args.held.now in
    decides_in_use (Refuses c.args.request.now c.args.limits c.args.cache.now c.decide_by.new.cache) c.args.cache.now.refused c.decide_by.new.cache.refused
    (patterns_of_request c.args.request.now) in_use c.args.request.now c.decide_by.result
    (decided c.args.request.now c.args.held.now c.args.limits c.args.moment c.args.maker c.args.words)
    (in_use_decides c.args.cache.now c.decide_by.new.cache in_use c.decide_by.result
    c.args.request.now c.args.held.now c.args.limits c.args.moment c.args.maker c.args.words c.args.config.now c.requires c.decide_by.ensures.decides)

pub returns-clause-meaning : goal.returns-clause-meaning
returns-clause-meaning c =
    let in_use = patterns_in_use c.args.config.now c.args.moment c.args.held.now in
    let refused = c.decide_by.new.cache.refused in
    λ own held patterns. decides_rightly (Refuses c.args.request.now c.args.limits c.args.cache.now c.decide_by.new.cache) c.args.cache.now.refused refused
    (patterns_of_request c.args.request.now) (stored_asked c.args.request.now in_use) c.decide_by.result
    (decided c.args.request.now c.args.held.now c.args.limits c.args.moment c.args.maker c.args.words)
    (in_use_decides c.args.cache.now c.decide_by.new.cache in_use c.decide_by.result
    c.args.request.now c.args.held.now c.args.limits c.args.moment c.args.maker c.args.words c.args.config.now c.requires c.decide_by.ensures.decides)
    own (all_asked (λ p. IsRefusedRightly refused p) c.args.request.now in_use held) (all_asked IsPattern c.args.request.now in_use patterns)
