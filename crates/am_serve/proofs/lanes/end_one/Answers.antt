use Rattle.std.proofs.Common.{◌-◌, None, Some, ap, arith, sym, ◌∙◌}
use Rattle.am_serve.specs.declared.lanes.Lane.{Lane}
use Rattle.am_serve.specs.Lanes.{under_way_in, under_way_of, waiting_in, waiting_of}
use Rattle.am_serve.proofs.LaneChanges.{found_at, once, seen_changed, seen_kept, twice}
use Rattle.am_serve.proofs.LaneWrites.{absent, needed_removed, needed_written, nothing_left, written}
use Rattle.am_serve.proofs.LaneSums.{bytes_removed, bytes_written, counted_at, counted_removed, counted_written}
use Rattle.am_serve.proofs.lanes.end_one.Goals as goal

pub returns-in_default-clause-under_way : goal.returns-in_default-clause-under_way
unfolding under_way_of
returns-in_default-clause-under_way g c =
    let lanes = c.args.lanes.now in
    let tenant = c.args.tenant.now in
    let none = c.in_default.ensures.value in
    rw c.get_mut.follows.holds-at-none
    (seen_changed under_way_in lanes lanes tenant None (λ count. count - 1) (absent lanes tenant none)
    (sym (ap (λ found. under_way_in found - 1) (found_at lanes tenant None none))))

pub returns-then-not-is_needed-clause-waiting : goal.returns-then-not-is_needed-clause-waiting
unfolding waiting_of
returns-then-not-is_needed-clause-waiting g c =
    let lanes = c.args.lanes.now in
    let tenant = c.args.tenant.now in
    let was = c.in-Some.lane.now in
    let lane : Lane g.row.T.Denot = record { waiting = was.waiting; bytes = was.bytes; under_way = c.saturating_sub-lane.result } in
    let middle = c.get_mut.follows.lender lane in
    let new = c.remove.new.self in
    let left = nothing_left lane (sym c.is_needed.ensures ∙ c.if-not-is_needed.true) in
    seen_kept waiting_in lanes new tenant None
    (twice lanes middle new tenant (Some lane) None
    (written lanes middle tenant was lane c.in-Some.ensures.value (c.get_mut.follows.holds lane)) (once middle new tenant None c.remove.ensures.updates))
    (sym (ap waiting_in (found_at lanes tenant (Some was) c.in-Some.ensures.value) ∙ left.0))

pub returns-then-not-is_needed-clause-under_way : goal.returns-then-not-is_needed-clause-under_way
unfolding under_way_of
returns-then-not-is_needed-clause-under_way g c =
    let lanes = c.args.lanes.now in
    let tenant = c.args.tenant.now in
    let was = c.in-Some.lane.now in
    let lane : Lane g.row.T.Denot = record { waiting = was.waiting; bytes = was.bytes; under_way = c.saturating_sub-lane.result } in
    let middle = c.get_mut.follows.lender lane in
    let new = c.remove.new.self in
    let left = nothing_left lane (sym c.is_needed.ensures ∙ c.if-not-is_needed.true) in
    seen_changed under_way_in lanes new tenant None (λ count. count - 1)
    (twice lanes middle new tenant (Some lane) None
    (written lanes middle tenant was lane c.in-Some.ensures.value (c.get_mut.follows.holds lane)) (once middle new tenant None c.remove.ensures.updates))
    (sym (ap (λ found. under_way_in found - 1) (found_at lanes tenant (Some was) c.in-Some.ensures.value) ∙ sym c.saturating_sub-lane.ensures ∙ left.1))

pub returns-then-not-is_needed-clause-needed : goal.returns-then-not-is_needed-clause-needed
returns-then-not-is_needed-clause-needed g c =
    let lane : Lane g.row.T.Denot = record { waiting = c.in-Some.lane.now.waiting; bytes = c.in-Some.lane.now.bytes; under_way = c.saturating_sub-lane.result } in
    needed_removed c.args.lanes.now (c.get_mut.follows.lender lane) c.remove.new.self c.args.tenant.now lane (c.get_mut.follows.holds lane)
    c.remove.ensures.entries c.requires.needed

pub returns-else-not-is_needed-clause-waiting : goal.returns-else-not-is_needed-clause-waiting
unfolding waiting_of
returns-else-not-is_needed-clause-waiting g c =
    let lanes = c.args.lanes.now in
    let tenant = c.args.tenant.now in
    let was = c.in-Some.lane.now in
    let lane : Lane g.row.T.Denot = record { waiting = was.waiting; bytes = was.bytes; under_way = c.saturating_sub-lane.result } in
    let new = c.get_mut.follows.lender lane in
    seen_kept waiting_in lanes new tenant (Some lane) (written lanes new tenant was lane c.in-Some.ensures.value (c.get_mut.follows.holds lane))
    (sym (ap waiting_in (found_at lanes tenant (Some was) c.in-Some.ensures.value)))

pub returns-else-not-is_needed-clause-under_way : goal.returns-else-not-is_needed-clause-under_way
unfolding under_way_of
returns-else-not-is_needed-clause-under_way g c =
    let lanes = c.args.lanes.now in
    let tenant = c.args.tenant.now in
    let was = c.in-Some.lane.now in
    let lane : Lane g.row.T.Denot = record { waiting = was.waiting; bytes = was.bytes; under_way = c.saturating_sub-lane.result } in
    let new = c.get_mut.follows.lender lane in
    seen_changed under_way_in lanes new tenant (Some lane) (λ count. count - 1)
    (written lanes new tenant was lane c.in-Some.ensures.value (c.get_mut.follows.holds lane))
    (c.saturating_sub-lane.ensures ∙ sym (ap (λ found. under_way_in found - 1) (found_at lanes tenant (Some was) c.in-Some.ensures.value)))

pub returns-else-not-is_needed-clause-needed : goal.returns-else-not-is_needed-clause-needed
returns-else-not-is_needed-clause-needed g c =
    let lane : Lane g.row.T.Denot = record { waiting = c.in-Some.lane.now.waiting; bytes = c.in-Some.lane.now.bytes; under_way = c.saturating_sub-lane.result } in
    needed_written c.args.lanes.now (c.get_mut.follows.lender lane) c.args.tenant.now lane (c.get_mut.follows.holds lane) c.requires.needed
    (sym c.is_needed.ensures ∙ c.if-not-is_needed.false)

pub returns-then-not-is_needed-clause-counted : goal.returns-then-not-is_needed-clause-counted
returns-then-not-is_needed-clause-counted g c =
    let was = c.in-Some.lane.now in
    let lane : Lane g.row.T.Denot = record { waiting = was.waiting; bytes = was.bytes; under_way = c.saturating_sub-lane.result } in
    counted_removed g.T.Weighs.weight c.args.lanes.now (c.get_mut.follows.lender lane) c.remove.new.self c.args.tenant.now lane
    (c.get_mut.follows.holds lane) c.remove.ensures.entries c.requires.counted

pub returns-then-not-is_needed-clause-bytes : goal.returns-then-not-is_needed-clause-bytes
returns-then-not-is_needed-clause-bytes g c =
    let was = c.in-Some.lane.now in
    let lane : Lane g.row.T.Denot = record { waiting = was.waiting; bytes = was.bytes; under_way = c.saturating_sub-lane.result } in
    bytes_removed g.T.Weighs.weight c.args.lanes.now (c.get_mut.follows.lender lane) c.remove.new.self c.args.tenant.now was lane
    c.in-Some.ensures.value (c.get_mut.follows.holds lane) c.remove.ensures.entries
    (nothing_left lane (sym c.is_needed.ensures ∙ c.if-not-is_needed.true)).0

pub returns-else-not-is_needed-clause-counted : goal.returns-else-not-is_needed-clause-counted
returns-else-not-is_needed-clause-counted g c =
    let was = c.in-Some.lane.now in
    let lane : Lane g.row.T.Denot = record { waiting = was.waiting; bytes = was.bytes; under_way = c.saturating_sub-lane.result } in
    counted_written g.T.Weighs.weight c.args.lanes.now (c.get_mut.follows.lender lane) c.args.tenant.now lane (c.get_mut.follows.holds lane)
    c.requires.counted (counted_at g.T.Weighs.weight c.args.lanes.now c.args.tenant.now was c.requires.counted c.in-Some.ensures.value)

pub returns-else-not-is_needed-clause-bytes : goal.returns-else-not-is_needed-clause-bytes
returns-else-not-is_needed-clause-bytes g c =
    let was = c.in-Some.lane.now in
    let lane : Lane g.row.T.Denot = record { waiting = was.waiting; bytes = was.bytes; under_way = c.saturating_sub-lane.result } in
    omega (
      arith,
      bytes_written g.T.Weighs.weight c.args.lanes.now (c.get_mut.follows.lender lane) c.args.tenant.now was lane
          c.in-Some.ensures.value (c.get_mut.follows.holds lane),
    )
