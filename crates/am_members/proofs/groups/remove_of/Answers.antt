use Rattle.std.proofs.Common.{◌∙◌, IsSome, ap, refl, sym}
use Rattle.std.specs.BTreeMap as tree
use Rattle.std.specs.Cmp.Lexicographic.{slice_cmp}
use Rattle.std.specs.Map.{lookup}
use Rattle.std.specs.Ordering.{nat_cmp}
use Rattle.am_members.specs.Grouped.{Grouped, kept_after}
use Rattle.am_members.specs.Names.{is_set, without}
use Rattle.am_members.proofs.Tenants.{grouped_none, grouped_there, part_changed, part_missed}
use Rattle.am_members.proofs.groups.remove_of.Goals as goal

pub returns-in-Some-clause-known : goal.returns-in-Some-clause-known
returns-in-Some-clause-known c = c.remove.ensures.known ∙ ap (λ (x : Grouped). lookup (is_set c.args.labels.now) x.alerts) (sym (grouped_there c.args.tenant.now c.args.tenants.now.entries c.in-Some.index.now c.in-Some.ensures.value))

pub returns-in-Some-clause-alerts : goal.returns-in-Some-clause-alerts
returns-in-Some-clause-alerts c =
    let m = c.args.tenants.now in
    let t = c.args.tenant.now in
    let now = c.remove.new.self in
    let there : IsSome (tree.get (slice_cmp nat_cmp) m t) = rw (← c.in-Some.ensures.value) refl in
    part_changed m (c.get_mut.follows.lender now) t (λ x. x.alerts) (λ x. without c.args.labels.now x.alerts) c.in-Some.index.now now
    ((c.get_mut.follows.holds now).3 there) (sym (grouped_there t m.entries c.in-Some.index.now c.in-Some.ensures.value)) c.remove.ensures.alerts

pub returns-in-Some-clause-flushes : goal.returns-in-Some-clause-flushes
returns-in-Some-clause-flushes c =
    let m = c.args.tenants.now in
    let own = c.args.tenant.now in
    let now = c.remove.new.self in
    let there : IsSome (tree.get (slice_cmp nat_cmp) m own) = rw (← c.in-Some.ensures.value) refl in
    part_changed m (c.get_mut.follows.lender now) own (λ x. x.flushes) (kept_after c.args.labels.now) c.in-Some.index.now now
    ((c.get_mut.follows.holds now).3 there) (sym (grouped_there own m.entries c.in-Some.index.now c.in-Some.ensures.value)) c.remove.ensures.flushes

pub returns-in-None-clause-known : goal.returns-in-None-clause-known
returns-in-None-clause-known c = ap (λ (x : Grouped). lookup (is_set c.args.labels.now) x.alerts) (sym (grouped_none c.args.tenant.now c.args.tenants.now.entries c.in-None.ensures.value))

pub returns-in-None-clause-alerts : goal.returns-in-None-clause-alerts
returns-in-None-clause-alerts c t =
    rw c.get_mut.follows.holds-at-none (part_missed (λ x. x.alerts) (λ x. without c.args.labels.now x.alerts) c.args.tenants.now.entries c.args.tenant.now c.in-None.ensures.value refl t)

pub returns-in-None-clause-flushes : goal.returns-in-None-clause-flushes
returns-in-None-clause-flushes c t =
    rw c.get_mut.follows.holds-at-none (part_missed (λ x. x.flushes) (kept_after c.args.labels.now) c.args.tenants.now.entries c.args.tenant.now c.in-None.ensures.value refl t)
