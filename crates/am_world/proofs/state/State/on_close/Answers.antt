use Rattle.std.proofs.Common.{refl}
use Rattle.am_cluster.specs.Events.{Close}
use Rattle.am_world.proofs.Beside.{step_beside}
use Rattle.am_world.proofs.KeptQuiet.{Rests, kept_close, rest_same}
use Rattle.am_world.proofs.KeptQuietRefused.{kept_unread_close}
use Rattle.am_world.proofs.KeptQuietWhole.{backed_rest, closed_at, closed_quiet, consistent_rest, read_here}
use Rattle.am_world.proofs.KeptQuietWhole.{rests_itself, unread_each}
use Rattle.am_world.proofs.RunPlaces.{turns_each}
use Rattle.am_world.proofs.state.State.on_close.Goals as goal

pub returns-in_default-clause-step : goal.returns-in_default-clause-step
returns-in_default-clause-step c =
    step_beside c.args.self.now (Close c.args.connection) c.args.self.now refl
    (kept_unread_close c.args.self.now c.args.connection
    (unread_each c.args.connection c.args.self.now.instances c.in_default.ensures.none))

pub returns-clause-step : goal.returns-clause-step
returns-clause-step c =
    let xs = c.args.self.now.instances in
    let n = c.in-Some.reader in
    let close = c.close.ensures in
    let found = read_here c.args.connection n xs c.in-Some.ensures.exists c.in-Some.ensures.reads in
    step_beside c.args.self.now (Close c.args.connection) _ refl
    (kept_close c.args.self.now _ n c.args.connection found.0 found.1
    (closed_at n c.args.connection xs c.close.new.self c.requires.numbered close.at close.reading)
    (rest_same c.args.self.now _ refl refl refl c.requires.numbered close.at.numbered
    (turns_each Rests rests_itself n xs c.close.new.self close.at.others close.stays)) refl refl)

pub returns-clause-consistent : goal.returns-clause-consistent
returns-clause-consistent c =
    let xs = c.args.self.now.instances in
    let n = c.in-Some.reader in
    let close = c.close.ensures in
    consistent_rest c.args.self.now _ c.requires refl refl refl close.at.numbered
    (turns_each Rests rests_itself n xs c.close.new.self close.at.others close.stays)
    (closed_quiet n c.args.connection xs c.close.new.self c.requires.numbered close.at close.stays close.reading
    c.requires.quiet)

pub returns-clause-backed : goal.returns-clause-backed
returns-clause-backed c =
    let xs = c.args.self.now.instances in
    let close = c.close.ensures in
    backed_rest xs c.close.new.self c.requires.numbered close.at.numbered
    (turns_each Rests rests_itself c.in-Some.reader xs c.close.new.self close.at.others close.stays)
