use Rattle.std.proofs.Common.{[]}
use Rattle.am_http.specs.declared.request.Method.TheVariants.{Post}
use Rattle.am_api.specs.Decision.{configuration_decided}
use Rattle.am_api.specs.Patterns.{patterns_of_document}
use Rattle.am_api.specs.Refusing.{DocumentRefuses}
use Rattle.am_api.proofs.Builds.{with_method}
use Rattle.std.proofs.Common.{subst, sym}
use Rattle.am_muting.specs.Failing.{AddsAmong}
use Rattle.am_api.proofs.Adding.{unasked_adds}
use Rattle.am_api.proofs.Accepting.{accepts_at}
use Rattle.am_api.proofs.decision.decide_configuration.Goals as goal

pub returns-in-Post-clause-decides : goal.returns-in-Post-clause-decides
returns-in-Post-clause-decides c =
    with_method _ _ _ (λ m. DocumentRefuses m c.args.request.now c.args.limits c.args.cache.now c.post_configuration.new.cache) (λ m. patterns_of_document m c.args.request.now) (λ m. [])
    (λ m. configuration_decided c.args.request.now m c.args.held.now c.args.limits c.args.moment c.args.maker)
    c.args.request.now.method Post c.in-Post.is (rw c.as_slice.ensures at c.post_configuration.ensures.decides)

pub returns-in-Post-clause-adds : goal.returns-in-Post-clause-adds
returns-in-Post-clause-adds c =
    subst (λ m. AddsAmong (patterns_of_document m c.args.request.now) c.args.cache.now.refused c.post_configuration.new.cache.refused) (sym c.in-Post.is) (rw c.as_slice.ensures at c.post_configuration.ensures.adds)

pub returns-in-Get-clause-adds : goal.returns-in-Get-clause-adds
returns-in-Get-clause-adds c =
    unasked_adds _ _

pub returns-in-Delete-clause-adds : goal.returns-in-Delete-clause-adds
returns-in-Delete-clause-adds c =
    unasked_adds _ _

pub returns-in-Post-clause-built : goal.returns-in-Post-clause-built
returns-in-Post-clause-built c =
    accepts_at (λ m. patterns_of_document m c.args.request.now) _ Post _ c.in-Post.is
    (rw c.as_slice.ensures at c.post_configuration.ensures.built)
