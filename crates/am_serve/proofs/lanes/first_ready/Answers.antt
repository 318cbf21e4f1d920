use Rattle.std.proofs.Common.{◌≡◌, ℕ, List, ◌++◌, true, not, map, ap, sym, ◌∙◌}
use Rattle.std.proofs.lemmas.List.Folds.{list_all-map}
use Rattle.std.proofs.lemmas.Map.Iter.{iter_end, rest_more, rest_so_far}
use Rattle.std.proofs.lemmas.Map.Views.{All-turn}
use Rattle.std.specs.BTreeMap.Range.{IsEntryInRange, range_contains}
use Rattle.std.specs.Cmp.Lexicographic.{slice_cmp}
use Rattle.std.specs.Map.Iter.{deref_pair}
use Rattle.std.specs.Ordering.{nat_cmp}
use Rattle.std.specs.declared.ops.Bound.TheVariants.{Unbounded}
use Rattle.am_serve.specs.declared.lanes.Lane.{Lane}
use Rattle.am_serve.specs.Lanes.{can_begin}
use Rattle.am_serve.proofs.LaneTurns.{none_before_in, none_in, part_after, part_whole, ready_at}
use Rattle.am_serve.proofs.lanes.first_ready.Goals as goal
use Rattle.am_serve.proofs.lanes.first_ready.Goals.{in-Some, in-None}

pub returns-then-can_begin-clause-ready : goal.returns-then-can_begin-clause-ready
returns-then-can_begin-clause-ready g c =
    let there = All-turn deref_pair (IsEntryInRange (slice_cmp nat_cmp) c.match-after.start Unbounded c.args.lanes.now) c.range-tenant-items.result c.loop-tenant.yielded c.into_iter-tenant-iterator.result c.loop-tenant.tenant-iterator c.next.new.self c.next.result
    (c.in-Some-2.tenant, c.in-Some-2.lane) (c.range-tenant-items.ensures.in_range tt).0 c.into_iter-tenant-iterator.ensures.into_iter_gives c.loop-tenant.yielded_by c.in-Some-2.is c.next.ensures.steps in
    ready_at c.args.free c.args.lanes.now c.in-Some-2.tenant.now c.in-Some-2.lane.now there.1 (sym c.can_begin.ensures ∙ c.if-can_begin.true)

pub returns-then-can_begin-clause-first : goal.returns-then-can_begin-clause-first
returns-then-can_begin-clause-first g c = λ t after below.
    let within : range_contains (slice_cmp nat_cmp) c.match-after.start Unbounded t ≡ true = elim c.match-after.branch [
      | in-Some w ↦ part_after c.match-after.start c.args.after w.in-Some.name w.in-Some.is w.start-is t after
      | in-None w ↦ part_whole c.match-after.start w.start-is t
    ] in
    let entry : List ℕ × Lane g.row.T.Denot = (c.in-Some-2.tenant.now, c.in-Some-2.lane.now) in
    none_before_in c.args.free c.args.lanes.now (range_contains (slice_cmp nat_cmp) c.match-after.start Unbounded) c.range-tenant-items.result (map deref_pair c.loop-tenant.yielded) entry c.next.new.self
    c.range-tenant-items.ensures.ordered (c.range-tenant-items.ensures.between tt)
    (sym c.into_iter-tenant-iterator.ensures.into_iter_gives
    ∙ rest_so_far deref_pair c.loop-tenant.yielded c.into_iter-tenant-iterator.result c.loop-tenant.tenant-iterator c.loop-tenant.yielded_by
    ∙ ap (λ rest. map deref_pair c.loop-tenant.yielded ++ rest) (rest_more deref_pair c.loop-tenant.tenant-iterator c.next.new.self c.next.result (c.in-Some-2.tenant, c.in-Some-2.lane) c.in-Some-2.is c.next.ensures.steps))
    (list_all-map (λ (e : List ℕ × Lane g.row.T.Denot). not (can_begin c.args.free e.1)) deref_pair c.loop-tenant.yielded ∙ c.loop-tenant.invariant) t within below

pub returns-clause-none : goal.returns-clause-none
returns-clause-none g c = λ t after.
    let within : range_contains (slice_cmp nat_cmp) c.match-after.start Unbounded t ≡ true = elim c.match-after.branch [
      | in-Some w ↦ part_after c.match-after.start c.args.after w.in-Some.name w.in-Some.is w.start-is t after
      | in-None w ↦ part_whole c.match-after.start w.start-is t
    ] in
    let all = iter_end deref_pair c.range-tenant-items.result c.loop-tenant.yielded c.into_iter-tenant-iterator.result c.loop-tenant.tenant-iterator c.next.new.self c.next.result
    c.into_iter-tenant-iterator.ensures.into_iter_gives c.loop-tenant.yielded_by c.in-None-2.is c.next.ensures.steps in
    none_in c.args.free c.args.lanes.now (range_contains (slice_cmp nat_cmp) c.match-after.start Unbounded) (map deref_pair c.loop-tenant.yielded)
    (all.0 ∙ c.range-tenant-items.ensures.between tt)
    (list_all-map (λ (e : List ℕ × Lane g.row.T.Denot). not (can_begin c.args.free e.1)) deref_pair c.loop-tenant.yielded ∙ c.loop-tenant.invariant) t within
