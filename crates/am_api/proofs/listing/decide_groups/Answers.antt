use Rattle.am_http.specs.declared.request.Method.TheVariants.{Get}
use Rattle.am_listing.specs.Failing.{patterns_in_use}
use Rattle.am_api.specs.Decision.{groups_decided}
use Rattle.am_api.specs.Patterns.{patterns_of_groups}
use Rattle.am_api.specs.Refusing.{GroupsRefuse, asked_by_method}
use Rattle.am_api.proofs.Builds.{with_method}
use Rattle.std.proofs.Common.{◌++◌, subst, sym}
use Rattle.am_muting.specs.Failing.{AddsAmong}
use Rattle.am_api.proofs.Accepting.{accepts_at}
use Rattle.am_api.proofs.listing.decide_groups.Goals as goal

pub returns-in-Get-clause-decides : goal.returns-in-Get-clause-decides
returns-in-Get-clause-decides c =
    with_method _ _ _ (λ m. GroupsRefuse m c.args.request.now c.args.cache.now c.decide_group_list.new.cache) (λ m. patterns_of_groups m c.args.request.now) (λ m. asked_by_method m (patterns_in_use c.args.config.now c.args.moment c.args.held.now))
    (λ m. groups_decided c.args.config.now c.args.request.now m c.args.held.now c.args.moment)
    c.args.request.now.method Get c.in-Get.is (rw c.as_str.ensures at c.decide_group_list.ensures.decides)

pub returns-in-Get-clause-adds : goal.returns-in-Get-clause-adds
returns-in-Get-clause-adds c =
    subst (λ m. AddsAmong (patterns_of_groups m c.args.request.now ++ asked_by_method m (patterns_in_use c.args.config.now c.args.moment c.args.held.now)) c.args.cache.now.refused c.decide_group_list.new.cache.refused) (sym c.in-Get.is) (rw c.as_str.ensures at c.decide_group_list.ensures.adds)

pub returns-in-Get-clause-built : goal.returns-in-Get-clause-built
returns-in-Get-clause-built c =
    accepts_at (λ m. patterns_of_groups m c.args.request.now) _ Get _ c.in-Get.is (rw c.as_str.ensures at c.decide_group_list.ensures.built)
