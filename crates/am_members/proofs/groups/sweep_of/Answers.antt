use Rattle.std.proofs.Common.{IsSome, refl, sym}
use Rattle.std.specs.BTreeMap as tree
use Rattle.std.specs.Cmp.Lexicographic.{slice_cmp}
use Rattle.std.specs.Ordering.{nat_cmp}
use Rattle.am_members.specs.Grouped.{living}
use Rattle.am_members.proofs.Tenants.{grouped_there, part_changed, part_kept, part_missed}
use Rattle.am_members.proofs.groups.sweep_of.Goals as goal

pub returns-in-Some-clause-flushes : goal.returns-in-Some-clause-flushes
returns-in-Some-clause-flushes c =
    let m = c.args.tenants.now in
    let own = c.args.tenant.now in
    let was = c.in-Some.index.now in
    let now = c.forget_empty.new.self in
    let there : IsSome (tree.get (slice_cmp nat_cmp) m own) = rw (← c.in-Some.ensures.value) refl in
    part_changed m (c.get_mut.follows.lender now) own (λ x. x.flushes) living was now ((c.get_mut.follows.holds now).3 there) (sym (grouped_there own m.entries was c.in-Some.ensures.value)) c.forget_empty.ensures.flushes

pub returns-in-Some-clause-alerts : goal.returns-in-Some-clause-alerts
returns-in-Some-clause-alerts c =
    let m = c.args.tenants.now in
    let own = c.args.tenant.now in
    let was = c.in-Some.index.now in
    let now = c.forget_empty.new.self in
    let there : IsSome (tree.get (slice_cmp nat_cmp) m own) = rw (← c.in-Some.ensures.value) refl in
    part_kept m (c.get_mut.follows.lender now) own (λ x. x.alerts) was now ((c.get_mut.follows.holds now).3 there) (sym (grouped_there own m.entries was c.in-Some.ensures.value)) c.forget_empty.ensures.alerts

pub returns-in_default-clause-flushes : goal.returns-in_default-clause-flushes
returns-in_default-clause-flushes c t =
    rw c.get_mut.follows.holds-at-none (part_missed (λ x. x.flushes) living c.args.tenants.now.entries c.args.tenant.now c.in_default.ensures.value refl t)
