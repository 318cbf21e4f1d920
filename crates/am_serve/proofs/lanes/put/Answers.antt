use Rattle.std.proofs.Common.{[], ◌∷◌, ◌++◌, None, Some, ap, arith, sum_by, sym, ◌∙◌}
use Rattle.am_serve.specs.Lanes.{under_way_in, under_way_of, waiting_in, waiting_of}
use Rattle.am_serve.proofs.LaneChanges.{found_at, seen_changed, seen_kept}
use Rattle.am_serve.proofs.LanePushes.{came, needed_alike, needed_came, needed_stays, needed_waiting, on_err, seen_stays}
use Rattle.am_serve.proofs.LaneWrites.{needed_written, written}
use Rattle.am_serve.proofs.LaneSums.{added, bytes_came, bytes_written, counted_at, counted_came, counted_written}
use Rattle.am_serve.proofs.lanes.put.Goals as goal

pub returns-in-Some-clause-waiting : goal.returns-in-Some-clause-waiting
unfolding waiting_of
returns-in-Some-clause-waiting g c =
    let lanes = c.args.lanes.now in
    let was = c.in-Some.lane.now in
    let lane = c.add.new.self in
    let new = c.get_mut.follows.lender lane in
    seen_changed waiting_in lanes new c.args.tenant (Some lane) (λ items. items ++ c.args.item ∷ [])
    (written lanes new c.args.tenant was lane c.in-Some.ensures.value (c.get_mut.follows.holds lane))
    (c.in_ok-add.ensures.waiting ∙ sym (ap (λ found. waiting_in found ++ c.args.item ∷ []) (found_at lanes c.args.tenant (Some was) c.in-Some.ensures.value)))

pub returns-in-Some-clause-under_way : goal.returns-in-Some-clause-under_way
unfolding under_way_of
returns-in-Some-clause-under_way g c =
    let lanes = c.args.lanes.now in
    let was = c.in-Some.lane.now in
    let lane = c.add.new.self in
    let new = c.get_mut.follows.lender lane in
    seen_kept under_way_in lanes new c.args.tenant (Some lane)
    (written lanes new c.args.tenant was lane c.in-Some.ensures.value (c.get_mut.follows.holds lane))
    (c.add.ensures.under_way ∙ sym (ap under_way_in (found_at lanes c.args.tenant (Some was) c.in-Some.ensures.value)))

pub returns-in-Some-clause-needed : goal.returns-in-Some-clause-needed
returns-in-Some-clause-needed g c =
    let was = c.in-Some.lane.now in
    let lane = c.add.new.self in
    needed_written c.args.lanes.now (c.get_mut.follows.lender lane) c.args.tenant lane (c.get_mut.follows.holds lane) c.requires.needed
    (needed_waiting lane was.waiting.items c.args.item c.in_ok-add.ensures.waiting)

pub returns-in_err-add-clause-err : goal.returns-in_err-add-clause-err
unfolding waiting_of
returns-in_err-add-clause-err g c =
    let lanes = c.args.lanes.now in
    let was = c.in-Some.lane.now in
    let lane = c.add.new.self in
    let new = c.get_mut.follows.lender lane in
    on_err c.from_residual.result
    (seen_kept waiting_in lanes new c.args.tenant (Some lane)
    (written lanes new c.args.tenant was lane c.in-Some.ensures.value (c.get_mut.follows.holds lane))
    (c.in_err-add.ensures.err ∙ sym (ap waiting_in (found_at lanes c.args.tenant (Some was) c.in-Some.ensures.value))))

pub returns-in_err-add-clause-under_way : goal.returns-in_err-add-clause-under_way
unfolding under_way_of
returns-in_err-add-clause-under_way g c =
    let lanes = c.args.lanes.now in
    let was = c.in-Some.lane.now in
    let lane = c.add.new.self in
    let new = c.get_mut.follows.lender lane in
    seen_kept under_way_in lanes new c.args.tenant (Some lane)
    (written lanes new c.args.tenant was lane c.in-Some.ensures.value (c.get_mut.follows.holds lane))
    (c.add.ensures.under_way ∙ sym (ap under_way_in (found_at lanes c.args.tenant (Some was) c.in-Some.ensures.value)))

pub returns-in_err-add-clause-needed : goal.returns-in_err-add-clause-needed
returns-in_err-add-clause-needed g c =
    let was = c.in-Some.lane.now in
    let lane = c.add.new.self in
    needed_written c.args.lanes.now (c.get_mut.follows.lender lane) c.args.tenant lane (c.get_mut.follows.holds lane) c.requires.needed
    (needed_alike c.args.lanes.now c.args.tenant was lane c.requires.needed c.in-Some.ensures.value c.in_err-add.ensures.err c.add.ensures.under_way)

pub returns-in_err-insert-clause-err : goal.returns-in_err-insert-clause-err
unfolding waiting_of
returns-in_err-insert-clause-err g c =
    on_err c.from_residual-in_err-insert.result
    (seen_stays waiting_in c.args.lanes.now c.get_mut.follows.lender-at-none c.insert.new.self c.get_mut.follows.holds-at-none c.in_err-insert.ensures.err)

pub returns-in_err-insert-clause-under_way : goal.returns-in_err-insert-clause-under_way
unfolding under_way_of
returns-in_err-insert-clause-under_way g c =
    seen_stays under_way_in c.args.lanes.now c.get_mut.follows.lender-at-none c.insert.new.self c.get_mut.follows.holds-at-none c.in_err-insert.ensures.err

pub returns-in_err-insert-clause-needed : goal.returns-in_err-insert-clause-needed
returns-in_err-insert-clause-needed g c =
    needed_stays c.args.lanes.now c.get_mut.follows.lender-at-none c.insert.new.self c.get_mut.follows.holds-at-none c.in_err-insert.ensures.err c.requires.needed

pub returns-in_err-add-2-clause-needed : goal.returns-in_err-add-2-clause-needed
returns-in_err-add-2-clause-needed g c = rw c.get_mut.follows.holds-at-none c.requires.needed

pub returns-clause-waiting : goal.returns-clause-waiting
unfolding waiting_of
returns-clause-waiting g c =
    let lanes = c.args.lanes.now in
    let lane = c.add-2.new.self in
    let none = c.in_default.ensures.value in
    let new = c.insert.new.self in
    seen_changed waiting_in lanes new c.args.tenant (Some lane) (λ items. items ++ c.args.item ∷ [])
    (came lanes c.get_mut.follows.lender-at-none new c.args.tenant lane c.get_mut.follows.holds-at-none c.in_ok-insert.ensures.updates)
    (c.in_ok-add-2.ensures.waiting ∙ ap (λ items. items ++ c.args.item ∷ []) c.new-fresh.ensures.waiting
    ∙ sym (ap (λ found. waiting_in found ++ c.args.item ∷ []) (found_at lanes c.args.tenant None none)))

pub returns-clause-under_way : goal.returns-clause-under_way
unfolding under_way_of
returns-clause-under_way g c =
    let lanes = c.args.lanes.now in
    let lane = c.add-2.new.self in
    let none = c.in_default.ensures.value in
    let new = c.insert.new.self in
    seen_kept under_way_in lanes new c.args.tenant (Some lane)
    (came lanes c.get_mut.follows.lender-at-none new c.args.tenant lane c.get_mut.follows.holds-at-none c.in_ok-insert.ensures.updates)
    (c.add-2.ensures.under_way ∙ c.new-fresh.ensures.under_way ∙ sym (ap under_way_in (found_at lanes c.args.tenant None none)))

pub returns-clause-needed : goal.returns-clause-needed
returns-clause-needed g c =
    let lane = c.add-2.new.self in
    needed_came c.args.lanes.now c.get_mut.follows.lender-at-none c.insert.new.self c.args.tenant lane c.get_mut.follows.holds-at-none
    c.in_ok-insert.ensures.entries c.requires.needed (needed_waiting lane c.new-fresh.result.waiting.items c.args.item c.in_ok-add-2.ensures.waiting)

pub returns-in-Some-clause-counted : goal.returns-in-Some-clause-counted
returns-in-Some-clause-counted g c =
    let was = c.in-Some.lane.now in
    let lane = c.add.new.self in
    counted_written g.T.Weighs.weight c.args.lanes.now (c.get_mut.follows.lender lane) c.args.tenant lane (c.get_mut.follows.holds lane) c.requires.counted
    (omega (
      arith,
      c.in_ok-add.ensures.bytes,
      counted_at g.T.Weighs.weight c.args.lanes.now c.args.tenant was c.requires.counted c.in-Some.ensures.value,
      added g.T.Weighs.weight was.waiting.items lane.waiting.items c.args.item c.in_ok-add.ensures.waiting,
    ))

pub returns-in-Some-clause-bytes : goal.returns-in-Some-clause-bytes
returns-in-Some-clause-bytes g c =
    let was = c.in-Some.lane.now in
    let lane = c.add.new.self in
    omega (
      arith,
      bytes_written g.T.Weighs.weight c.args.lanes.now (c.get_mut.follows.lender lane) c.args.tenant was lane c.in-Some.ensures.value (c.get_mut.follows.holds lane),
      added g.T.Weighs.weight was.waiting.items lane.waiting.items c.args.item c.in_ok-add.ensures.waiting,
    )

pub returns-in_err-add-clause-counted : goal.returns-in_err-add-clause-counted
returns-in_err-add-clause-counted g c =
    let was = c.in-Some.lane.now in
    let lane = c.add.new.self in
    counted_written g.T.Weighs.weight c.args.lanes.now (c.get_mut.follows.lender lane) c.args.tenant lane (c.get_mut.follows.holds lane) c.requires.counted
    (c.in_err-add.ensures.err_bytes
    ∙ counted_at g.T.Weighs.weight c.args.lanes.now c.args.tenant was c.requires.counted c.in-Some.ensures.value
    ∙ ap (sum_by g.T.Weighs.weight) (sym c.in_err-add.ensures.err))

pub returns-in_err-add-clause-err_bytes : goal.returns-in_err-add-clause-err_bytes
returns-in_err-add-clause-err_bytes g c =
    let was = c.in-Some.lane.now in
    let lane = c.add.new.self in
    on_err c.from_residual.result
    (omega (
      arith,
      bytes_written g.T.Weighs.weight c.args.lanes.now (c.get_mut.follows.lender lane) c.args.tenant was lane c.in-Some.ensures.value (c.get_mut.follows.holds lane),
      ap (sum_by g.T.Weighs.weight) c.in_err-add.ensures.err,
    ))

pub returns-clause-counted : goal.returns-clause-counted
returns-clause-counted g c =
    let lane = c.add-2.new.self in
    counted_came g.T.Weighs.weight c.args.lanes.now c.get_mut.follows.lender-at-none c.insert.new.self c.args.tenant lane c.get_mut.follows.holds-at-none
    c.in_ok-insert.ensures.entries c.requires.counted
    (omega (
      arith,
      c.in_ok-add-2.ensures.bytes,
      c.new-fresh.ensures.bytes,
      added g.T.Weighs.weight c.new-fresh.result.waiting.items lane.waiting.items c.args.item c.in_ok-add-2.ensures.waiting,
      ap (sum_by g.T.Weighs.weight) c.new-fresh.ensures.waiting,
    ))

pub returns-clause-bytes : goal.returns-clause-bytes
returns-clause-bytes g c =
    let lane = c.add-2.new.self in
    omega (
      arith,
      bytes_came g.T.Weighs.weight c.args.lanes.now c.get_mut.follows.lender-at-none c.insert.new.self c.args.tenant lane c.get_mut.follows.holds-at-none
          c.in_ok-insert.ensures.entries c.in_default.ensures.value,
      added g.T.Weighs.weight c.new-fresh.result.waiting.items lane.waiting.items c.args.item c.in_ok-add-2.ensures.waiting,
      ap (sum_by g.T.Weighs.weight) c.new-fresh.ensures.waiting,
    )
