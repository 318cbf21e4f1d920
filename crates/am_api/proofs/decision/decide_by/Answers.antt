use Rattle.am_http.specs.declared.request.Endpoint.TheVariants.{AlertGroups, Alerts, Configuration, Silences}
use Rattle.am_listing.specs.Failing.{patterns_in_use}
use Rattle.am_api.proofs.Builds.{at_endpoint}
use Rattle.std.proofs.Common.{◌++◌, subst, sym}
use Rattle.am_muting.specs.Failing.{AddsAmong}
use Rattle.am_api.specs.Patterns.{patterns_by}
use Rattle.am_api.specs.Refusing.{asked_by}
use Rattle.am_api.proofs.Adding.{own_adds, unasked_adds}
use Rattle.am_api.proofs.Accepting.{accepts_at}
use Rattle.am_api.proofs.decision.decide_by.Goals as goal

pub returns-in-Alerts-clause-decides : goal.returns-in-Alerts-clause-decides
returns-in-Alerts-clause-decides c =
    at_endpoint _ _ (patterns_in_use c.args.config.now c.args.moment c.args.held.now) _ c.args.request.now c.args.config.now c.args.held.now c.args.limits
    c.args.moment c.args.maker c.args.words Alerts c.in-Alerts.is c.decide_alerts.ensures.decides

pub returns-in-AlertGroups-clause-decides : goal.returns-in-AlertGroups-clause-decides
returns-in-AlertGroups-clause-decides c =
    at_endpoint _ _ (patterns_in_use c.args.config.now c.args.moment c.args.held.now) _ c.args.request.now c.args.config.now c.args.held.now c.args.limits
    c.args.moment c.args.maker c.args.words AlertGroups c.in-AlertGroups.is c.decide_groups.ensures.decides

pub returns-in-Silences-clause-decides : goal.returns-in-Silences-clause-decides
returns-in-Silences-clause-decides c =
    at_endpoint _ _ (patterns_in_use c.args.config.now c.args.moment c.args.held.now) _ c.args.request.now c.args.config.now c.args.held.now c.args.limits
    c.args.moment c.args.maker c.args.words Silences c.in-Silences.is c.decide_silences.ensures.decides

pub returns-in-Configuration-clause-decides : goal.returns-in-Configuration-clause-decides
returns-in-Configuration-clause-decides c =
    at_endpoint _ _ (patterns_in_use c.args.config.now c.args.moment c.args.held.now) _ c.args.request.now c.args.config.now c.args.held.now c.args.limits
    c.args.moment c.args.maker c.args.words Configuration c.in-Configuration.is c.decide_configuration.ensures.decides

pub returns-in-Alerts-clause-adds : goal.returns-in-Alerts-clause-adds
returns-in-Alerts-clause-adds c =
    subst (λ e. AddsAmong (patterns_by e c.args.request.now ++ asked_by e c.args.request.now.method (patterns_in_use c.args.config.now c.args.moment c.args.held.now)) c.args.cache.now.refused c.decide_alerts.new.cache.refused)
    (sym c.in-Alerts.is) c.decide_alerts.ensures.adds

pub returns-in-AlertGroups-clause-adds : goal.returns-in-AlertGroups-clause-adds
returns-in-AlertGroups-clause-adds c =
    subst (λ e. AddsAmong (patterns_by e c.args.request.now ++ asked_by e c.args.request.now.method (patterns_in_use c.args.config.now c.args.moment c.args.held.now)) c.args.cache.now.refused c.decide_groups.new.cache.refused)
    (sym c.in-AlertGroups.is) c.decide_groups.ensures.adds

pub returns-in-Silences-clause-adds : goal.returns-in-Silences-clause-adds
returns-in-Silences-clause-adds c =
    subst (λ e. AddsAmong (patterns_by e c.args.request.now ++ asked_by e c.args.request.now.method (patterns_in_use c.args.config.now c.args.moment c.args.held.now)) c.args.cache.now.refused c.decide_silences.new.cache.refused)
    (sym c.in-Silences.is) (own_adds _ _ _ _ c.decide_silences.ensures.adds)

pub returns-in-Configuration-clause-adds : goal.returns-in-Configuration-clause-adds
returns-in-Configuration-clause-adds c =
    subst (λ e. AddsAmong (patterns_by e c.args.request.now ++ asked_by e c.args.request.now.method (patterns_in_use c.args.config.now c.args.moment c.args.held.now)) c.args.cache.now.refused c.decide_configuration.new.cache.refused)
    (sym c.in-Configuration.is) (own_adds _ _ _ _ c.decide_configuration.ensures.adds)

pub returns-in-Silence-clause-adds : goal.returns-in-Silence-clause-adds
returns-in-Silence-clause-adds c =
    unasked_adds _ _

pub returns-in-Receivers-clause-adds : goal.returns-in-Receivers-clause-adds
returns-in-Receivers-clause-adds c =
    unasked_adds _ _

pub returns-in-Alerts-clause-built : goal.returns-in-Alerts-clause-built
returns-in-Alerts-clause-built c =
    accepts_at (λ e. patterns_by e c.args.request.now) _ Alerts _ c.in-Alerts.is c.decide_alerts.ensures.built

pub returns-in-AlertGroups-clause-built : goal.returns-in-AlertGroups-clause-built
returns-in-AlertGroups-clause-built c =
    accepts_at (λ e. patterns_by e c.args.request.now) _ AlertGroups _ c.in-AlertGroups.is c.decide_groups.ensures.built

pub returns-in-Silences-clause-built : goal.returns-in-Silences-clause-built
returns-in-Silences-clause-built c =
    accepts_at (λ e. patterns_by e c.args.request.now) _ Silences _ c.in-Silences.is c.decide_silences.ensures.built

pub returns-in-Configuration-clause-built : goal.returns-in-Configuration-clause-built
returns-in-Configuration-clause-built c =
    accepts_at (λ e. patterns_by e c.args.request.now) _ Configuration _ c.in-Configuration.is c.decide_configuration.ensures.built
