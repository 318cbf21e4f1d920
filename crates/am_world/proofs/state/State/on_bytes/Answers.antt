use Rattle.std.proofs.Common.{◌≡◌, ap, false, refl, sym, arith}
use Rattle.std.proofs.lemmas.Bool.Decides.{nat_tests}
use Rattle.am_cluster.specs.Events.{Bytes}
use Rattle.am_cluster.specs.Moments.{is_too_late}
use Rattle.am_world.specs.Stopping.{is_that}
use Rattle.am_world.proofs.AloneRead.{unread_by}
use Rattle.am_world.proofs.Beside.{step_beside}
use Rattle.am_world.proofs.Faults.{faulted_at, step_faulted}
use Rattle.am_world.proofs.KeptBytes.{kept_bytes, kept_late_bytes, kept_unread_bytes}
use Rattle.am_world.proofs.KeptQuietWhole.{backed_but}
use Rattle.am_world.proofs.Placed.{backed_after, bytes_there, there}
use Rattle.am_world.proofs.state.State.on_bytes.Goals as goal

pub returns-then-moment-gt-LAST_MOMENT-clause-step : goal.returns-then-moment-gt-LAST_MOMENT-clause-step
returns-then-moment-gt-LAST_MOMENT-clause-step c =
    step_beside c.args.self.now (Bytes c.args.connection c.args.moment c.args.piece.now) c.args.self.now refl
    (kept_late_bytes c.args.self.now c.args.connection c.args.moment c.args.piece.now (grind (arith, nat_tests)))

pub returns-in_default-clause-step : goal.returns-in_default-clause-step
returns-in_default-clause-step c =
    step_beside c.args.self.now (Bytes c.args.connection c.args.moment c.args.piece.now) c.args.self.now refl
    (kept_unread_bytes c.args.self.now c.args.connection c.args.moment c.args.piece.now
    (unread_by c.args.connection c.args.self.now.instances c.in_default.ensures.none))

pub returns-in-Ok-clause-step : goal.returns-in-Ok-clause-step
returns-in-Ok-clause-step c =
    let xs = c.args.self.now.instances in
    let x = there c.in-Some.reader xs c.in-Some.ensures.exists in
    let before = bytes_there c.args.connection x.0 (c.in-Some.ensures.reads x.0 x.1) in
    step_beside c.args.self.now (Bytes c.args.connection c.args.moment c.args.piece.now) _ refl
    (kept_bytes c.args.self.now c.feed.new.self c.in-Some.reader c.args.connection c.args.moment before.0
    c.args.piece.now x.0 (grind (arith, nat_tests)) x.1 before.1 c.requires
    (rw (c.as_slice-bytes.ensures, c.effective-at.ensures) at c.in-Ok.ensures.does) c.feed.ensures.stays)

pub returns-in-Err-clause-step : goal.returns-in-Err-clause-step
returns-in-Err-clause-step c =
    let allowed : is_too_late c.args.moment ≡ false = grind (arith, nat_tests) in
    step_faulted c.args.self.now (Bytes c.args.connection c.args.moment c.args.piece.now) c.stop.new.self
    (λ shelves. faulted_at c.args.self.now c.feed.new.self c.stop.new.self shelves shelves
    (Bytes c.args.connection c.args.moment c.args.piece.now) c.in-Some.reader c.in-Err.fault
    (rw (allowed, sym c.in-Some.ensures.reader) refl) refl
    (λ j. ap (λ o. is_that o j) (sym c.in-Some.ensures.reader)) refl (λ posted. refl) c.requires.numbered
    c.in-Err.ensures.fails c.stop.ensures.stopped
    (rw (c.as_slice-bytes.ensures, c.effective-at.ensures) at c.in-Err.ensures.cause))

pub returns-in-Ok-clause-backed : goal.returns-in-Ok-clause-backed
returns-in-Ok-clause-backed c =
    backed_after c.in-Some.reader c.args.self.now.instances c.feed.new.self.instances c.requires.numbered
    c.in-Ok.ensures.does.others c.in-Ok.ensures.backed

pub returns-in-Err-clause-backed : goal.returns-in-Err-clause-backed
returns-in-Err-clause-backed c shelves backed =
    c.stop.ensures.backed shelves
    (backed_but c.in-Some.reader c.args.self.now.instances c.feed.new.self.instances c.in-Err.ensures.fails.others.others
    shelves backed)
