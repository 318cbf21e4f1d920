use Rattle.std.proofs.Common.{◌≡◌, ◌∙◌, ◌≤◌, false, map, refl, sym, subst, arith}
use Rattle.std.proofs.lemmas.Bool.Decides.{nat_tests}
use Rattle.am_cluster.specs.Events.{Tick}
use Rattle.am_cluster.specs.Moments.{is_refused_tick, last_moment}
use Rattle.am_instance.specs.Shelves.{shelf_of}
use Rattle.am_world.specs.Consistent.{over}
use Rattle.am_world.specs.Stopping.{Step}
use Rattle.am_world.proofs.Beside.{step_beside}
use Rattle.am_world.proofs.Shelved.{shelves_alone, unrefused_up}
use Rattle.am_world.proofs.TickKept.{kept_refused_tick}
use Rattle.am_world.proofs.TickFaulted.{tick_step}
use Rattle.am_world.proofs.TickShelves.{left_at}
use Rattle.am_world.proofs.TickWhole.{consistent_at, max_later}
use Rattle.am_world.proofs.state.State.on_tick.Goals as goal

pub returns-then-moment-gt-LAST_MOMENT-clause-step :
    goal.returns-then-moment-gt-LAST_MOMENT-clause-step
returns-then-moment-gt-LAST_MOMENT-clause-step g c =
    step_beside c.args.self.now (Tick c.args.moment) c.args.self.now refl
    (kept_refused_tick c.args.self.now c.args.moment (grind (arith, nat_tests)))
    (map (shelf_of g.R.Rows) c.args.stores.now)

pub returns-then-moment-gt-LAST_MOMENT-clause-left :
    goal.returns-then-moment-gt-LAST_MOMENT-clause-left
returns-then-moment-gt-LAST_MOMENT-clause-left g c =
    let w = c.args.self.now in
    shelves_alone g.R.Rows.rejects w (Tick c.args.moment) w (map (shelf_of g.R.Rows) c.args.stores.now)
    c.requires.backed (λ i up. up) (λ i. refl) (unrefused_up w.instances w.instances (λ i. refl))

pub tick_all-requires-clause-consistent : goal.tick_all-requires-clause-consistent
tick_all-requires-clause-consistent g c =
    let now = c.effective-self.ensures ∙ max_later c.args.moment c.args.self.now.clock
    (rw c.milliseconds.ensures.value at c.if-moment-milliseconds.false) in
    let early : c.args.moment ≤ last_moment = grind (arith, nat_tests) in
    consistent_at c.args.self.now c.effective-self.result c.lose_before.new.self
    (subst (λ m. m ≤ last_moment) (sym now) early) c.lose_before.ensures c.requires.consistent

pub returns-clause-step : goal.returns-clause-step
returns-clause-step g c =
    let w = c.args.self.now in
    let now = c.effective-self.ensures ∙ max_later c.args.moment w.clock
    (rw c.milliseconds.ensures.value at c.if-moment-milliseconds.false) in
    let allowed : is_refused_tick c.args.moment w.clock ≡ false = grind (arith, nat_tests) in
    let old = map (shelf_of g.R.Rows) c.args.stores.now in
    let new = map (shelf_of g.R.Rows) c.tick_all.new.stores in
    subst (λ m. Step (over w old) (Tick m) (over c.tick_all.new.self new)) now
    (tick_step w c.tick_all.new.self c.effective-self.result c.lose_before.new.self
    (subst (λ m. is_refused_tick m w.clock ≡ false) (sym now) allowed) c.requires.consistent.numbered
    c.lose_before.ensures c.tick_all.ensures.turns old new (λ i down. c.tick_all.ensures.left.others i down refl)
    c.tick_all.ensures.clean)

pub returns-clause-left : goal.returns-clause-left
returns-clause-left g c =
    let now = c.effective-self.ensures ∙ max_later c.args.moment c.args.self.now.clock
    (rw c.milliseconds.ensures.value at c.if-moment-milliseconds.false) in
    left_at g.R.Rows.rejects c.args.self.now c.effective-self.result c.args.moment c.lose_before.new.self
    c.tick_all.new.self (map (shelf_of g.R.Rows) c.args.stores.now)
    (map (shelf_of g.R.Rows) c.tick_all.new.stores) now c.tick_all.ensures.left
