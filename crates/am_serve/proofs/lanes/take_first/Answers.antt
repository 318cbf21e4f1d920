use Rattle.std.proofs.Common.{◌+◌, ◌-◌, Some, ap, arith, refl, sym}
use Rattle.std.proofs.lemmas.Bool.{false≢true}
use Rattle.am_serve.specs.declared.lanes.Lane.{Lane}
use Rattle.am_serve.specs.Lanes.{under_way_in, under_way_of, waiting_in, waiting_of}
use Rattle.am_serve.proofs.LaneChanges.{found_at, seen_changed, seen_elsewhere}
use Rattle.am_serve.proofs.LaneWrites.{first_left, needed_under_way, needed_written, ready_parts, ready_there, written}
use Rattle.am_serve.proofs.LaneSums.{bytes_written, counted_at, counted_written, left}
use Rattle.am_serve.proofs.lanes.take_first.Goals as goal

pub unreachable-requires : goal.unreachable-requires
unreachable-requires g c = ready_there c.args.free c.args.lanes.now c.args.tenant.now c.in_default.ensures.value c.requires.ready

pub unreachable-requires-in_default-pop_front : goal.unreachable-requires-in_default-pop_front
unreachable-requires-in_default-pop_front g c =
    let was = c.in-Some.lane.now in
    let parts = ready_parts c.args.free c.args.lanes.now c.args.tenant.now was c.in-Some.ensures.value c.requires.ready in
    false≢true (c.in_default-pop_front.ensures.variant.1 (omega (arith, parts.0, was.waiting.ok.0)))

pub overflow_add-lane : goal.overflow_add-lane
overflow_add-lane g c =
    let parts = ready_parts c.args.free c.args.lanes.now c.args.tenant.now c.in-Some.lane.now c.in-Some.ensures.value c.requires.ready in
    grind (arith, parts.1, c.ranges.free.fits)

pub returns-clause-first : goal.returns-clause-first
returns-clause-first g c =
    let lane : Lane g.row.T.Denot = record { waiting = c.pop_front.new.self; bytes = c.in-Some.lane.now.bytes - c.bytes-taken.result; under_way = c.in-Some.lane.now.under_way + 1 } in
    let new = c.get_mut.follows.lender lane in
    first_left c.args.lanes.now new c.args.tenant.now c.in-Some.lane.now lane c.in-Some-pop_front.item c.in-Some.ensures.value
    (written c.args.lanes.now new c.args.tenant.now c.in-Some.lane.now lane c.in-Some.ensures.value (c.get_mut.follows.holds lane))
    c.in-Some-pop_front.ensures.items

pub returns-clause-others : goal.returns-clause-others
unfolding waiting_of
returns-clause-others g c = λ t apart.
    let lane : Lane g.row.T.Denot = record { waiting = c.pop_front.new.self; bytes = c.in-Some.lane.now.bytes - c.bytes-taken.result; under_way = c.in-Some.lane.now.under_way + 1 } in
    let new = c.get_mut.follows.lender lane in
    seen_elsewhere waiting_in c.args.lanes.now new c.args.tenant.now (Some lane)
    (written c.args.lanes.now new c.args.tenant.now c.in-Some.lane.now lane c.in-Some.ensures.value (c.get_mut.follows.holds lane)) t apart

pub returns-clause-under_way : goal.returns-clause-under_way
unfolding under_way_of
returns-clause-under_way g c = λ t.
    let was = c.in-Some.lane.now in
    let lane : Lane g.row.T.Denot = record { waiting = c.pop_front.new.self; bytes = c.in-Some.lane.now.bytes - c.bytes-taken.result; under_way = was.under_way + 1 } in
    let new = c.get_mut.follows.lender lane in
    seen_changed under_way_in c.args.lanes.now new c.args.tenant.now (Some lane) (λ count. count + 1)
    (written c.args.lanes.now new c.args.tenant.now was lane c.in-Some.ensures.value (c.get_mut.follows.holds lane))
    (ap (λ found. under_way_in found + 1) (sym (found_at c.args.lanes.now c.args.tenant.now (Some was) c.in-Some.ensures.value))) t

pub returns-clause-needed : goal.returns-clause-needed
returns-clause-needed g c =
    let lane : Lane g.row.T.Denot = record { waiting = c.pop_front.new.self; bytes = c.in-Some.lane.now.bytes - c.bytes-taken.result; under_way = c.in-Some.lane.now.under_way + 1 } in
    needed_written c.args.lanes.now (c.get_mut.follows.lender lane) c.args.tenant.now lane (c.get_mut.follows.holds lane) c.requires.needed
    (needed_under_way lane c.in-Some.lane.now.under_way refl)

pub overflow_sub-lane : goal.overflow_sub-lane
overflow_sub-lane g c =
    let was = c.in-Some.lane.now in
    let counted = counted_at g.T.Weighs.weight c.args.lanes.now c.args.tenant.now was c.requires.counted c.in-Some.ensures.value in
    omega (arith, c.bytes-taken.ensures, left g.T.Weighs.weight was _ c.in-Some-pop_front.item counted c.in-Some-pop_front.ensures.items)

pub returns-clause-counted : goal.returns-clause-counted
returns-clause-counted g c =
    let was = c.in-Some.lane.now in
    let lane : Lane g.row.T.Denot = record { waiting = c.pop_front.new.self; bytes = was.bytes - c.bytes-taken.result; under_way = was.under_way + 1 } in
    let counted = counted_at g.T.Weighs.weight c.args.lanes.now c.args.tenant.now was c.requires.counted c.in-Some.ensures.value in
    counted_written g.T.Weighs.weight c.args.lanes.now (c.get_mut.follows.lender lane) c.args.tenant.now lane (c.get_mut.follows.holds lane) c.requires.counted
    (omega (arith, c.bytes-taken.ensures, left g.T.Weighs.weight was lane.waiting.items c.in-Some-pop_front.item counted c.in-Some-pop_front.ensures.items))

pub returns-clause-bytes : goal.returns-clause-bytes
returns-clause-bytes g c =
    let was = c.in-Some.lane.now in
    let lane : Lane g.row.T.Denot = record { waiting = c.pop_front.new.self; bytes = was.bytes - c.bytes-taken.result; under_way = was.under_way + 1 } in
    let counted = counted_at g.T.Weighs.weight c.args.lanes.now c.args.tenant.now was c.requires.counted c.in-Some.ensures.value in
    omega (
      arith,
      counted,
      bytes_written g.T.Weighs.weight c.args.lanes.now (c.get_mut.follows.lender lane) c.args.tenant.now was lane c.in-Some.ensures.value (c.get_mut.follows.holds lane),
      left g.T.Weighs.weight was lane.waiting.items c.in-Some-pop_front.item counted c.in-Some-pop_front.ensures.items,
    )
