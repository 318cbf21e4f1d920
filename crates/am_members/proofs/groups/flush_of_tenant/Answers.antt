use Rattle.std.proofs.Common.{IsSome, refl, sym}
use Rattle.std.specs.BTreeMap as tree
use Rattle.std.specs.Cmp.Lexicographic.{slice_cmp}
use Rattle.std.specs.Ordering.{nat_cmp}
use Rattle.std.proofs.lemmas.Bool.{true≢false}
use Rattle.std.proofs.lemmas.Result.{on_err_weaker, on_ok_weaker}
use Rattle.am_members.specs.Grouped.{flushed_at}
use Rattle.am_members.proofs.Tenants.{grouped_none, grouped_there, part_changed, part_kept}
use Rattle.am_members.proofs.groups.flush_of_tenant.Goals as goal

pub flush_at-requires : goal.flush_at-requires
flush_at-requires c = rw (← grouped_there c.args.tenant.now c.args.tenants.now.entries c.in-Some.index.now c.in-Some.ensures.value) c.requires

pub returns-in-Some-clause-flushes : goal.returns-in-Some-clause-flushes
returns-in-Some-clause-flushes c =
    let m = c.args.tenants.now in
    let own = c.args.tenant.now in
    let was = c.in-Some.index.now in
    let now = c.flush_at.new.self in
    let there : IsSome (tree.get (slice_cmp nat_cmp) m own) = rw (← c.in-Some.ensures.value) refl in
    on_ok_weaker c.flush_at.result
    (λ flushed. part_changed m (c.get_mut.follows.lender now) own (λ x. x.flushes) (flushed_at c.args.group.now c.args.moment) was now ((c.get_mut.follows.holds now).3 there) (sym (grouped_there own m.entries was c.in-Some.ensures.value)) flushed)
    c.flush_at.ensures.flushes

pub returns-in-Some-clause-alerts : goal.returns-in-Some-clause-alerts
returns-in-Some-clause-alerts c =
    let m = c.args.tenants.now in
    let own = c.args.tenant.now in
    let was = c.in-Some.index.now in
    let now = c.flush_at.new.self in
    let there : IsSome (tree.get (slice_cmp nat_cmp) m own) = rw (← c.in-Some.ensures.value) refl in
    part_kept m (c.get_mut.follows.lender now) own (λ x. x.alerts) was now ((c.get_mut.follows.holds now).3 there) (sym (grouped_there own m.entries was c.in-Some.ensures.value)) c.flush_at.ensures.alerts

pub returns-in-Some-clause-err : goal.returns-in-Some-clause-err
returns-in-Some-clause-err c =
    let m = c.args.tenants.now in
    let own = c.args.tenant.now in
    let was = c.in-Some.index.now in
    let now = c.flush_at.new.self in
    let there : IsSome (tree.get (slice_cmp nat_cmp) m own) = rw (← c.in-Some.ensures.value) refl in
    on_err_weaker c.flush_at.result
    (λ kept. part_kept m (c.get_mut.follows.lender now) own (λ x. x.flushes) was now ((c.get_mut.follows.holds now).3 there) (sym (grouped_there own m.entries was c.in-Some.ensures.value)) kept)
    c.flush_at.ensures.err

pub returns-in-None-clause-flushes : goal.returns-in-None-clause-flushes
returns-in-None-clause-flushes c =
    let bare = grouped_none c.args.tenant.now c.args.tenants.now.entries c.in-None.ensures.value in
    absurd (true≢false (rw bare at c.requires))
