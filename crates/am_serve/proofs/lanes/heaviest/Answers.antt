use Rattle.std.proofs.Common.{◌≡◌, ℕ, List, [], ◌∷◌, ◌++◌, None, Some, Bor, subst, sym}
use Rattle.std.proofs.lemmas.Map.Iter.{iter_end}
use Rattle.std.proofs.lemmas.Map.Views.{All-turn}
use Rattle.std.specs.BTreeMap.{get}
use Rattle.std.specs.Cmp.Lexicographic.{slice_cmp}
use Rattle.std.specs.Map.Iter.{deref_pair}
use Rattle.std.specs.Ordering.{nat_cmp}
use Rattle.am_serve.specs.declared.lanes.Lane.{Lane}
use Rattle.am_serve.proofs.Heaviest.{IsMost, is_heaviest, most_all, most_more, none_ready, on_none}
use Rattle.am_serve.proofs.lanes.heaviest.Goals as goal

pub loop-tenant-preserved : goal.loop-tenant-preserved
loop-tenant-preserved g c =
    let lanes = c.args.lanes.now in
    let gives = c.into_iter-tenant-iterator.ensures.into_iter_gives in
    let there = All-turn deref_pair (λ (e : List ℕ × Lane g.row.T.Denot). get (slice_cmp nat_cmp) lanes e.0 ≡ Some e.1) lanes.entries c.loop-tenant.yielded
    c.into_iter-tenant-iterator.result c.loop-tenant.tenant-iterator c.next.new.self c.next.result (c.in-Some.tenant, c.in-Some.lane)
    gives.6 gives.0 c.loop-tenant.yielded_by c.in-Some.is c.next.ensures.steps in
    subst (λ found. IsMost (λ (entry : Bor (List ℕ) × Bor (Lane g.row.T.Denot)). entry.1.now) lanes found (c.loop-tenant.yielded ++ (c.in-Some.tenant, c.in-Some.lane) ∷ []))
    (sym c.heavier-found.ensures)
    (most_more (λ (entry : Bor (List ℕ) × Bor (Lane g.row.T.Denot)). entry.1.now) lanes c.loop-tenant.found c.loop-tenant.yielded
    (c.in-Some.tenant, c.in-Some.lane) c.in-Some.tenant.now there c.loop-tenant.invariant)

pub returns-in_err-tenant-clause-none : goal.returns-in_err-tenant-clause-none
returns-in_err-tenant-clause-none g c =
    let lanes = c.args.lanes.now in
    let all = iter_end deref_pair lanes.entries c.loop-tenant.yielded c.into_iter-tenant-iterator.result c.loop-tenant.tenant-iterator c.next.new.self c.next.result
    c.into_iter-tenant-iterator.ensures.into_iter_gives.0 c.loop-tenant.yielded_by c.in-None.is c.next.ensures.steps in
    on_none c.from_residual.result
    (none_ready lanes (most_all deref_pair lanes None c.loop-tenant.yielded all.0 (rw c.in_err-tenant.was at c.loop-tenant.invariant)))

pub returns-clause-some : goal.returns-clause-some
returns-clause-some g c =
    let lanes = c.args.lanes.now in
    let found : List ℕ × ℕ = (c.in_ok-tenant.tenant, c.in_ok-tenant.field-0-1) in
    let all = iter_end deref_pair lanes.entries c.loop-tenant.yielded c.into_iter-tenant-iterator.result c.loop-tenant.tenant-iterator c.next.new.self c.next.result
    c.into_iter-tenant-iterator.ensures.into_iter_gives.0 c.loop-tenant.yielded_by c.in-None.is c.next.ensures.steps in
    let most = most_all deref_pair lanes (Some found) c.loop-tenant.yielded all.0 (rw c.in_ok-tenant.was at c.loop-tenant.invariant) in
    is_heaviest g.T.Weighs.weight lanes found c.requires most.0 most.1
