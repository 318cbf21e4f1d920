use Rattle.std.proofs.Common.{◌≡◌, ◌≢◌, ◌∙◌, ◌≤◌, ℕ, IsTrue, Option, ap, arith, false, is_some, map, refl, rules, subst}
use Rattle.std.proofs.Common.{sym, true}
use Rattle.std.specs.Prelude.{nat_le}
use Rattle.std.proofs.lemmas.Bool.Decides.{nat_tests}
use Rattle.am_cluster.specs.Events.{Restart}
use Rattle.am_cluster.specs.Refused.{InstanceNotUp, NoIncarnation, Refused}
use Rattle.am_cluster.specs.Roster.{Restarts, last_incarnation, ring_event_refusal}
use Rattle.am_ring.proofs.Numbers.{made}
use Rattle.am_ring.specs.Instances.{is_instance}
use Rattle.am_instance.specs.Shelves.{shelf_of}
use Rattle.am_world.specs.Changing.{MayComeUp, may_restart}
use Rattle.am_world.specs.Consistent.{newest_in, over}
use Rattle.am_world.specs.Leaving.{LeavesShelves}
use Rattle.am_world.specs.Places.{At, incarnation_at, up_at}
use Rattle.am_world.specs.Simulation.{roster_of}
use Rattle.am_world.specs.Stopping.{Step}
use Rattle.am_world.proofs.KeptRefusedRing.{step_refused}
use Rattle.am_world.proofs.RestartTaken.{restart_down, restart_last, restart_left, restart_may, restart_not_up}
use Rattle.am_world.proofs.RestartTaken.{restart_taken, restart_there}
use Rattle.am_world.proofs.RestartTaken.{restart_untouched, restarter_is}
use Rattle.am_world.proofs.Stopped.{exists_at}
use Rattle.am_world.proofs.TurnsStep.{restart_step}
use Rattle.am_world.proofs.state.State.on_restart.Goals as goal

not_last : (k : ℕ) → k ≢ last_incarnation → k ≤ last_incarnation → nat_le last_incarnation k ≡ false
not_last k other most = grind (arith, nat_tests)

-- ---- it isn't in the ring, or is up

pub returns-then-not-may_restart-clause-step : goal.returns-then-not-may_restart-clause-step
returns-then-not-may_restart-clause-step g c =
    let w = c.args.self.now in
    let i = c.args.instance in
    let out : may_restart w i ≡ false = sym c.may_restart.ensures ∙ c.if-not-may_restart.true in
    step_refused w (Restarts i) (ap (λ (o : Option Refused). is_some o) (restart_not_up w i out))
    (map (shelf_of g.R.Rows) c.args.stores.now)

pub returns-then-not-may_restart-clause-refused : goal.returns-then-not-may_restart-clause-refused
returns-then-not-may_restart-clause-refused g c =
    let w = c.args.self.now in
    let i = c.args.instance in
    let out : may_restart w i ≡ false = sym c.may_restart.ensures ∙ c.if-not-may_restart.true in
    rw (restart_not_up w i out) refl

pub returns-then-not-may_restart-clause-left : goal.returns-then-not-may_restart-clause-left
returns-then-not-may_restart-clause-left g c =
    let w = c.args.self.now in
    let i = c.args.instance in
    let out : may_restart w i ≡ false = sym c.may_restart.ensures ∙ c.if-not-may_restart.true in
    restart_untouched g.R.Rows.rejects w i (map (shelf_of g.R.Rows) c.args.stores.now) InstanceNotUp
    (restart_not_up w i out)

-- ---- it had its last incarnation

pub returns-then-incarnation-clause-step : goal.returns-then-incarnation-clause-step
returns-then-incarnation-clause-step g c =
    let w = c.args.self.now in
    let i = c.args.instance in
    let ok : may_restart w i ≡ true = sym c.may_restart.ensures ∙ c.if-not-may_restart.false in
    let last : nat_le last_incarnation (incarnation_at i w.instances) ≡ true =
    rw (← c.incarnation.ensures) (rw c.if-incarnation.true refl) in
    step_refused w (Restarts i) (ap (λ (o : Option Refused). is_some o) (restart_last w i ok last))
    (map (shelf_of g.R.Rows) c.args.stores.now)

pub returns-then-incarnation-clause-refused : goal.returns-then-incarnation-clause-refused
returns-then-incarnation-clause-refused g c =
    let w = c.args.self.now in
    let i = c.args.instance in
    let ok : may_restart w i ≡ true = sym c.may_restart.ensures ∙ c.if-not-may_restart.false in
    let last : nat_le last_incarnation (incarnation_at i w.instances) ≡ true =
    rw (← c.incarnation.ensures) (rw c.if-incarnation.true refl) in
    rw (restart_last w i ok last) refl

pub returns-then-incarnation-clause-left : goal.returns-then-incarnation-clause-left
returns-then-incarnation-clause-left g c =
    let w = c.args.self.now in
    let i = c.args.instance in
    let ok : may_restart w i ≡ true = sym c.may_restart.ensures ∙ c.if-not-may_restart.false in
    let last : nat_le last_incarnation (incarnation_at i w.instances) ≡ true =
    rw (← c.incarnation.ensures) (rw c.if-incarnation.true refl) in
    restart_untouched g.R.Rows.rejects w i (map (shelf_of g.R.Rows) c.args.stores.now) NoIncarnation
    (restart_last w i ok last)

-- ---- it is restarted

pub unwrap-number-requires : goal.unwrap-number-requires
unwrap-number-requires g c =
    let w = c.args.self.now in
    let i = c.args.instance in
    let ok : may_restart w i ≡ true = sym c.may_restart.ensures ∙ c.if-not-may_restart.false in
    rw (c.new.ensures, restarter_is w i c.requires.consistent ok) refl

pub restart-requires-clause-exists : goal.restart-requires-clause-exists
restart-requires-clause-exists g c =
    let w = c.args.self.now in
    let i = c.args.instance in
    let n = c.unwrap-number.result in
    let one = made i n (sym c.unwrap-number.ensures ∙ c.new.ensures) in
    exists_at n w.instances c.requires.consistent.numbered (subst (λ k. IsTrue (is_instance k)) (sym one.0) one.1)

pub restart-requires-clause-may : goal.restart-requires-clause-may
restart-requires-clause-may g c =
    let w = c.args.self.now in
    let i = c.args.instance in
    let ok : may_restart w i ≡ true = sym c.may_restart.ensures ∙ c.if-not-may_restart.false in
    let next : nat_le last_incarnation (incarnation_at i w.instances) ≡ false =
    rw (← c.incarnation.ensures) (not_last c.incarnation.result c.if-incarnation.false (search rules)) in
    let n = c.unwrap-number.result in
    let one = made i n (sym c.unwrap-number.ensures ∙ c.new.ensures) in
    subst (λ k. At k (MayComeUp (newest_in w.common)) w.instances) (sym one.0) (restart_may w i ok next)

pub returns-clause-step : goal.returns-clause-step
returns-clause-step g c =
    let w = c.args.self.now in
    let i = c.args.instance in
    let ok : may_restart w i ≡ true = sym c.may_restart.ensures ∙ c.if-not-may_restart.false in
    let next : nat_le last_incarnation (incarnation_at i w.instances) ≡ false =
    rw (← c.incarnation.ensures) (not_last c.incarnation.result c.if-incarnation.false (search rules)) in
    let n = c.unwrap-number.result in
    let one = made i n (sym c.unwrap-number.ensures ∙ c.new.ensures) in
    let old = map (shelf_of g.R.Rows) c.args.stores.now in
    let new = map (shelf_of g.R.Rows) c.restart.new.stores in
    let none = ap (λ k. ring_event_refusal (Restarts k) (roster_of w)) one.0 ∙ restart_taken w i ok next in
    subst (λ k. Step (over w old) (Restart k) (over c.restart.new.self new)) one.0
    (restart_step w c.restart.new.self n old new c.requires.consistent none
    (subst (λ k. is_instance k ≡ true) (sym one.0) one.1) c.restart.ensures.turns
    (ap (λ k. up_at k w.instances) one.0 ∙ restart_down w i ok) c.restart.ensures.clean c.restart.ensures.others)

pub returns-clause-refused : goal.returns-clause-refused
returns-clause-refused g c =
    let w = c.args.self.now in
    let i = c.args.instance in
    let ok : may_restart w i ≡ true = sym c.may_restart.ensures ∙ c.if-not-may_restart.false in
    let next : nat_le last_incarnation (incarnation_at i w.instances) ≡ false =
    rw (← c.incarnation.ensures) (not_last c.incarnation.result c.if-incarnation.false (search rules)) in
    rw (restart_taken w i ok next) refl

pub returns-clause-left : goal.returns-clause-left
returns-clause-left g c =
    let w = c.args.self.now in
    let i = c.args.instance in
    let ok : may_restart w i ≡ true = sym c.may_restart.ensures ∙ c.if-not-may_restart.false in
    let next : nat_le last_incarnation (incarnation_at i w.instances) ≡ false =
    rw (← c.incarnation.ensures) (not_last c.incarnation.result c.if-incarnation.false (search rules)) in
    let n = c.unwrap-number.result in
    let one = made i n (sym c.unwrap-number.ensures ∙ c.new.ensures) in
    let old = map (shelf_of g.R.Rows) c.args.stores.now in
    let new = map (shelf_of g.R.Rows) c.restart.new.stores in
    let none = ap (λ k. ring_event_refusal (Restarts k) (roster_of w)) one.0 ∙ restart_taken w i ok next in
    subst (λ k. LeavesShelves g.R.Rows.rejects w (Restart k) c.restart.new.self old new) one.0
    (restart_left g.R.Rows.rejects w c.restart.new.self n old new (restart_there w n none) c.restart.ensures.others
    c.restart.ensures.left)
