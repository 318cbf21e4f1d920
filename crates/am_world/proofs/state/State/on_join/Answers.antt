use Rattle.std.proofs.Common.{◌≡◌, ◌≢◌, ◌∙◌, ◌++◌, ◌∷◌, ◌<◌, ◌≤◌, ℕ, [], Err, IsTrue, None, Option, Some, ap, arith}
use Rattle.std.proofs.Common.{List, false, get_or, inr, is_some, length, map, refl, rules, slice_set, subst, sym, true}
use Rattle.std.specs.Prelude.{nat_le}
use Rattle.std.proofs.lemmas.Bool.{true≢false}
use Rattle.std.proofs.lemmas.Bool.Decides.{nat_tests}
use Rattle.std.proofs.lemmas.List.{length-map}
use Rattle.std.proofs.lemmas.Option.{slice_get-get_or}
use Rattle.am_cluster.specs.Events.{Join}
use Rattle.am_cluster.specs.Refused.{Refused}
use Rattle.am_cluster.specs.Roster.{Joins, last_incarnation}
use Rattle.am_cluster.specs.Rings.{newest_ring}
use Rattle.am_ring.proofs.Admitted.{may_join}
use Rattle.am_ring.proofs.Numbers.{made}
use Rattle.am_ring.specs.Changes.{join_refusal, with_instance}
use Rattle.am_ring.specs.Instances.{Members, is_among, is_instance}
use Rattle.am_instance.specs.Shelves.{Shelf, shelf_of}
use Rattle.am_world.specs.Changing.{ComesUpAt, members_of}
use Rattle.am_world.specs.Consistent.{around, newest_in, over}
use Rattle.am_world.specs.Leaving.{LeavesShelves}
use Rattle.am_world.specs.Places.{incarnation_at}
use Rattle.am_world.specs.Shelves.{shelf_at}
use Rattle.am_world.specs.Stopping.{Step}
use Rattle.am_world.specs.declared.state.State.{State}
use Rattle.am_world.proofs.FaultedRing.{Begins, faulted_alone}
use Rattle.am_world.proofs.InstancesLemmas.{number_of}
use Rattle.am_world.proofs.JoinBegun.{join_last, join_refused, join_step, join_taken, join_unbegun, join_untouched}
use Rattle.am_world.proofs.JoinBegun.{joined_left, joiner_is, joining, turns_beside, turns_joined}
use Rattle.am_world.proofs.KeptRefusedRing.{step_refused}
use Rattle.am_world.proofs.NotRefused.{taken}
use Rattle.am_world.proofs.Placed.{there}
use Rattle.am_world.proofs.Rostered.{begun_with, consistent_again, pushed, rings_some, unpushed}
use Rattle.am_world.proofs.Shelved.{backed_put, cleaner_put, shelf_is, shelf_other, shelf_put, turned_put}
use Rattle.am_world.proofs.Stopped.{exists_at}
use Rattle.am_world.proofs.state.State.on_join.Goals as goal

not_last : (k : ℕ) → k ≢ last_incarnation → k ≤ last_incarnation → nat_le last_incarnation k ≡ false
not_last k other most = grind (arith, nat_tests)

pub newest-requires : goal.newest-requires
newest-requires g c = rings_some c.args.self.now c.requires.consistent

-- ---- it is refused

pub returns-in-Err-clause-step : goal.returns-in-Err-clause-step
returns-in-Err-clause-step g c =
    let w = c.args.self.now in
    let i = c.args.instance in
    let is : join_refusal i (newest_in w.common) ≡ Some c.in-Err.refusal =
    rw c.newest.ensures at c.in-Err.ensures.refusal in
    step_refused w (Joins i) (ap (λ (o : Option Refused). is_some o) (join_refused w i c.in-Err.refusal is))
    (map (shelf_of g.R.Rows) c.args.stores.now)

pub returns-in-Err-clause-refused : goal.returns-in-Err-clause-refused
returns-in-Err-clause-refused g c =
    let w = c.args.self.now in
    let i = c.args.instance in
    let is : join_refusal i (newest_in w.common) ≡ Some c.in-Err.refusal =
    rw c.newest.ensures at c.in-Err.ensures.refusal in
    rw (join_refused w i c.in-Err.refusal is) (ap Err c.by_ring.ensures)

pub returns-in-Err-clause-left : goal.returns-in-Err-clause-left
returns-in-Err-clause-left g c =
    let w = c.args.self.now in
    let i = c.args.instance in
    let is : join_refusal i (newest_in w.common) ≡ Some c.in-Err.refusal =
    rw c.newest.ensures at c.in-Err.ensures.refusal in
    join_untouched g.R.Rows.rejects w i (map (shelf_of g.R.Rows) c.args.stores.now) _
    (join_refused w i c.in-Err.refusal is)

pub unwrap-number-requires : goal.unwrap-number-requires
unwrap-number-requires g c =
    let w = c.args.self.now in
    let i = c.args.instance in
    let none : join_refusal i (newest_in w.common) ≡ None = rw c.newest.ensures at c.in_default.ensures.refusal in
    let is = joiner_is i w none in
    rw (c.new.ensures, is) refl

pub returns-then-incarnation-clause-step : goal.returns-then-incarnation-clause-step
returns-then-incarnation-clause-step g c =
    let w = c.args.self.now in
    let i = c.args.instance in
    let none : join_refusal i (newest_in w.common) ≡ None = rw c.newest.ensures at c.in_default.ensures.refusal in
    let last : nat_le last_incarnation (incarnation_at i w.instances) ≡ true =
    rw (← c.incarnation.ensures) (rw c.if-incarnation.true refl) in
    step_refused w (Joins i) (ap (λ (o : Option Refused). is_some o) (join_last w i none last))
    (map (shelf_of g.R.Rows) c.args.stores.now)

pub returns-then-incarnation-clause-refused : goal.returns-then-incarnation-clause-refused
returns-then-incarnation-clause-refused g c =
    let w = c.args.self.now in
    let i = c.args.instance in
    let none : join_refusal i (newest_in w.common) ≡ None = rw c.newest.ensures at c.in_default.ensures.refusal in
    let last : nat_le last_incarnation (incarnation_at i w.instances) ≡ true =
    rw (← c.incarnation.ensures) (rw c.if-incarnation.true refl) in
    rw (join_last w i none last) refl

pub returns-then-incarnation-clause-left : goal.returns-then-incarnation-clause-left
returns-then-incarnation-clause-left g c =
    let w = c.args.self.now in
    let i = c.args.instance in
    let none : join_refusal i (newest_in w.common) ≡ None = rw c.newest.ensures at c.in_default.ensures.refusal in
    let last : nat_le last_incarnation (incarnation_at i w.instances) ≡ true =
    rw (← c.incarnation.ensures) (rw c.if-incarnation.true refl) in
    join_untouched g.R.Rows.rejects w i (map (shelf_of g.R.Rows) c.args.stores.now) _ (join_last w i none last)

-- ---- no memory for the ring

pub returns-then-is_err-clause-step : goal.returns-then-is_err-clause-step
returns-then-is_err-clause-step g c =
    let w = c.args.self.now in
    let i = c.args.instance in
    let none : join_refusal i (newest_in w.common) ≡ None = rw c.newest.ensures at c.in_default.ensures.refusal in
    let next : nat_le last_incarnation (incarnation_at i w.instances) ≡ false =
    rw (← c.incarnation.ensures) (not_last c.incarnation.result c.if-incarnation.false (search rules)) in
    let failed = sym c.is_err.ensures.value ∙ c.if-is_err.true in
    let same = unpushed c.push.result c.push.new.self.items _ _ c.push.ensures.items failed in
    rw c.count_fault.ensures (record {
      ends = inr (faulted_alone w _ (map (shelf_of g.R.Rows) c.args.stores.now) (Join i)
          (taken w (Joins i) (join_taken w i none next)) refl (begun_with w _ refl refl refl) same refl);
      clean = λ j clean. clean;
    })

pub returns-then-is_err-clause-refused : goal.returns-then-is_err-clause-refused
returns-then-is_err-clause-refused g c =
    let w = c.args.self.now in
    let i = c.args.instance in
    let none : join_refusal i (newest_in w.common) ≡ None = rw c.newest.ensures at c.in_default.ensures.refusal in
    let next : nat_le last_incarnation (incarnation_at i w.instances) ≡ false =
    rw (← c.incarnation.ensures) (not_last c.incarnation.result c.if-incarnation.false (search rules)) in
    rw (join_taken w i none next) refl

pub returns-then-is_err-clause-consistent : goal.returns-then-is_err-clause-consistent
returns-then-is_err-clause-consistent g c =
    let w = c.args.self.now in
    let i = c.args.instance in
    let failed = sym c.is_err.ensures.value ∙ c.if-is_err.true in
    let same = unpushed c.push.result c.push.new.self.items _ _ c.push.ensures.items failed in
    rw c.count_fault.ensures (consistent_again w _ refl refl refl refl same c.requires.consistent)

pub returns-then-is_err-clause-backed : goal.returns-then-is_err-clause-backed
returns-then-is_err-clause-backed g c =
    rw c.count_fault.ensures c.requires.backed

pub returns-then-is_err-clause-left : goal.returns-then-is_err-clause-left
returns-then-is_err-clause-left g c =
    let w = c.args.self.now in
    let i = c.args.instance in
    let none : join_refusal i (newest_in w.common) ≡ None = rw c.newest.ensures at c.in_default.ensures.refusal in
    let failed = sym c.is_err.ensures.value ∙ c.if-is_err.true in
    let same = unpushed c.push.result c.push.new.self.items _ _ c.push.ensures.items failed in
    rw c.count_fault.ensures
    (join_unbegun g.R.Rows.rejects w _ i (map (shelf_of g.R.Rows) c.args.stores.now)
    (ap (λ (rings : List Members). is_among i (newest_ring (map (λ (r : Members). r.instances) rings))) same
    ∙ (may_join i (newest_in w.common) none).new))

-- ---- it comes up, or stops on the way

pub next_incarnations-incarnations-requires : goal.next_incarnations-incarnations-requires
next_incarnations-incarnations-requires g c =
    let w = c.args.self.now in
    let i = c.args.instance in
    let none : join_refusal i (newest_in w.common) ≡ None = rw c.newest.ensures at c.in_default.ensures.refusal in
    let next : nat_le last_incarnation (incarnation_at i w.instances) ≡ false =
    rw (← c.incarnation.ensures) (not_last c.incarnation.result c.if-incarnation.false (search rules)) in
    let n = c.unwrap-number.result in
    let one = made i n (sym c.unwrap-number.ensures ∙ c.new.ensures) in
    let went = sym c.is_err.ensures.value ∙ c.if-is_err.false in
    let begun : State = record w { common = record (w.common) { rings = c.push.new.self } } in
    let begins : Begins w begun = begun_with w begun.common refl refl refl in
    let rings = pushed c.push.result c.push.new.self.items _ _ c.push.ensures.items went in
    let ring : c.join.new.self ≡ members_of (with_instance n (newest_in w.common)) =
    c.in_default.ensures.ok
    ∙ (λ d. members_of (with_instance (sym one.0 d) (c.newest.ensures d))) in
    let joins = joining n w begun c.join.new.self c.requires.consistent begins rings
    (ap (λ (r : Members). r.instances) ring) (ap (λ k. join_refusal k (newest_in w.common)) one.0 ∙ none)
    (ap (λ k. nat_le last_incarnation (incarnation_at k w.instances)) one.0 ∙ next) in
    λ x found. (joins.may x found).next

pub come_up-requires-clause-consistent : goal.come_up-requires-clause-consistent
come_up-requires-clause-consistent g c =
    let w = c.args.self.now in
    let i = c.args.instance in
    let none : join_refusal i (newest_in w.common) ≡ None = rw c.newest.ensures at c.in_default.ensures.refusal in
    let next : nat_le last_incarnation (incarnation_at i w.instances) ≡ false =
    rw (← c.incarnation.ensures) (not_last c.incarnation.result c.if-incarnation.false (search rules)) in
    let n = c.unwrap-number.result in
    let one = made i n (sym c.unwrap-number.ensures ∙ c.new.ensures) in
    let went = sym c.is_err.ensures.value ∙ c.if-is_err.false in
    let begun : State = record w { common = record (w.common) { rings = c.push.new.self } } in
    let begins : Begins w begun = begun_with w begun.common refl refl refl in
    let rings = pushed c.push.result c.push.new.self.items _ _ c.push.ensures.items went in
    let ring : c.join.new.self ≡ members_of (with_instance n (newest_in w.common)) =
    c.in_default.ensures.ok
    ∙ (λ d. members_of (with_instance (sym one.0 d) (c.newest.ensures d))) in
    let joins = joining n w begun c.join.new.self c.requires.consistent begins rings
    (ap (λ (r : Members). r.instances) ring) (ap (λ k. join_refusal k (newest_in w.common)) one.0 ∙ none)
    (ap (λ k. nat_le last_incarnation (incarnation_at k w.instances)) one.0 ∙ next) in
    joins.consistent

pub come_up-requires-clause-exists : goal.come_up-requires-clause-exists
come_up-requires-clause-exists g c =
    let w = c.args.self.now in
    let i = c.args.instance in
    let n = c.unwrap-number.result in
    let one = made i n (sym c.unwrap-number.ensures ∙ c.new.ensures) in
    exists_at n w.instances c.requires.consistent.numbered (subst (λ k. IsTrue (is_instance k)) (sym one.0) one.1)

pub come_up-requires-clause-may : goal.come_up-requires-clause-may
come_up-requires-clause-may g c =
    let w = c.args.self.now in
    let i = c.args.instance in
    let none : join_refusal i (newest_in w.common) ≡ None = rw c.newest.ensures at c.in_default.ensures.refusal in
    let next : nat_le last_incarnation (incarnation_at i w.instances) ≡ false =
    rw (← c.incarnation.ensures) (not_last c.incarnation.result c.if-incarnation.false (search rules)) in
    let n = c.unwrap-number.result in
    let one = made i n (sym c.unwrap-number.ensures ∙ c.new.ensures) in
    let went = sym c.is_err.ensures.value ∙ c.if-is_err.false in
    let begun : State = record w { common = record (w.common) { rings = c.push.new.self } } in
    let begins : Begins w begun = begun_with w begun.common refl refl refl in
    let rings = pushed c.push.result c.push.new.self.items _ _ c.push.ensures.items went in
    let ring : c.join.new.self ≡ members_of (with_instance n (newest_in w.common)) =
    c.in_default.ensures.ok
    ∙ (λ d. members_of (with_instance (sym one.0 d) (c.newest.ensures d))) in
    let joins = joining n w begun c.join.new.self c.requires.consistent begins rings
    (ap (λ (r : Members). r.instances) ring) (ap (λ k. join_refusal k (newest_in w.common)) one.0 ∙ none)
    (ap (λ k. nat_le last_incarnation (incarnation_at k w.instances)) one.0 ∙ next) in
    joins.may

pub returns-clause-step : goal.returns-clause-step
returns-clause-step g c =
    let w = c.args.self.now in
    let i = c.args.instance in
    let none : join_refusal i (newest_in w.common) ≡ None = rw c.newest.ensures at c.in_default.ensures.refusal in
    let next : nat_le last_incarnation (incarnation_at i w.instances) ≡ false =
    rw (← c.incarnation.ensures) (not_last c.incarnation.result c.if-incarnation.false (search rules)) in
    let n = c.unwrap-number.result in
    let one = made i n (sym c.unwrap-number.ensures ∙ c.new.ensures) in
    let f = λ (r : g.row.R.Denot). shelf_of g.R.Rows r in
    let stores = c.args.stores.now in
    let size : length stores ≡ 8 = sym (length-map stores f) ∙ c.requires.backed.size in
    let less : c.place.result < length stores = omega (arith, size, c.place.ensures.range) in
    let store = get_or stores c.place.result c.index-stores-place.result in
    let found = slice_get-get_or stores c.place.result c.index-stores-place.result less in
    let went = sym c.is_err.ensures.value ∙ c.if-is_err.false in
    let begun : State = record w { common = record (w.common) { rings = c.push.new.self } } in
    let begins : Begins w begun = begun_with w begun.common refl refl refl in
    let rings = pushed c.push.result c.push.new.self.items _ _ c.push.ensures.items went in
    let ring : c.join.new.self ≡ members_of (with_instance n (newest_in w.common)) =
    c.in_default.ensures.ok
    ∙ (λ d. members_of (with_instance (sym one.0 d) (c.newest.ensures d))) in
    let joins = joining n w begun c.join.new.self c.requires.consistent begins rings
    (ap (λ (r : Members). r.instances) ring) (ap (λ k. join_refusal k (newest_in w.common)) one.0 ∙ none)
    (ap (λ k. nat_le last_incarnation (incarnation_at k w.instances)) one.0 ∙ next) in
    let exists = exists_at n w.instances c.requires.consistent.numbered
    (subst (λ k. IsTrue (is_instance k)) (sym one.0) one.1) in
    let y = c.come_up.new.store in
    let old = map f stores in
    let new = map f (slice_set stores c.place.result y) in
    let ks = c.next_incarnations-incarnations.result in
    let turn : ComesUpAt (around begun.clock begun.common ks) n (f store) (f y) begun c.come_up.new.self =
    c.come_up.ensures.turn in
    subst (λ k. Step (over w old) (Join k) (over c.come_up.new.self new)) one.0
    (join_step n w begun c.come_up.new.self ks old new c.requires.consistent begins joins
    (rings ∙ ap (λ r. w.common.rings.items ++ r ∷ []) ring) c.next_incarnations-incarnations.ensures exists
    (subst (λ (a : Shelf). ComesUpAt (around begun.clock begun.common ks) n a (shelf_at n new) begun c.come_up.new.self)
    (sym (shelf_is f stores c.place.result n c.place.ensures.place store found))
    (subst (λ (a : Shelf). ComesUpAt (around begun.clock begun.common ks) n (f store) a begun c.come_up.new.self)
    (sym (shelf_put f stores c.place.result n c.place.ensures.place y less)) turn))
    (cleaner_put f stores c.place.result n c.place.ensures.place store y less found c.come_up.ensures.clean)
    (λ j apart. shelf_other f stores c.place.result n c.place.ensures.place j y less apart))

pub returns-clause-refused : goal.returns-clause-refused
returns-clause-refused g c =
    let w = c.args.self.now in
    let i = c.args.instance in
    let none : join_refusal i (newest_in w.common) ≡ None = rw c.newest.ensures at c.in_default.ensures.refusal in
    let next : nat_le last_incarnation (incarnation_at i w.instances) ≡ false =
    rw (← c.incarnation.ensures) (not_last c.incarnation.result c.if-incarnation.false (search rules)) in
    rw (join_taken w i none next) refl

pub returns-clause-backed : goal.returns-clause-backed
returns-clause-backed g c =
    let w = c.args.self.now in
    let i = c.args.instance in
    let n = c.unwrap-number.result in
    let one = made i n (sym c.unwrap-number.ensures ∙ c.new.ensures) in
    let f = λ (r : g.row.R.Denot). shelf_of g.R.Rows r in
    let stores = c.args.stores.now in
    let size : length stores ≡ 8 = sym (length-map stores f) ∙ c.requires.backed.size in
    let less : c.place.result < length stores = omega (arith, size, c.place.ensures.range) in
    let store = get_or stores c.place.result c.index-stores-place.result in
    let found = slice_get-get_or stores c.place.result c.index-stores-place.result less in
    backed_put f stores c.place.result n c.place.ensures.place w.instances c.come_up.new.self.instances
    c.come_up.new.store less c.come_up.ensures.turn.others.others c.come_up.ensures.backed c.requires.backed

pub returns-clause-left : goal.returns-clause-left
returns-clause-left g c =
    let w = c.args.self.now in
    let i = c.args.instance in
    let none : join_refusal i (newest_in w.common) ≡ None = rw c.newest.ensures at c.in_default.ensures.refusal in
    let next : nat_le last_incarnation (incarnation_at i w.instances) ≡ false =
    rw (← c.incarnation.ensures) (not_last c.incarnation.result c.if-incarnation.false (search rules)) in
    let n = c.unwrap-number.result in
    let one = made i n (sym c.unwrap-number.ensures ∙ c.new.ensures) in
    let f = λ (r : g.row.R.Denot). shelf_of g.R.Rows r in
    let stores = c.args.stores.now in
    let size : length stores ≡ 8 = sym (length-map stores f) ∙ c.requires.backed.size in
    let less : c.place.result < length stores = omega (arith, size, c.place.ensures.range) in
    let store = get_or stores c.place.result c.index-stores-place.result in
    let found = slice_get-get_or stores c.place.result c.index-stores-place.result less in
    let went = sym c.is_err.ensures.value ∙ c.if-is_err.false in
    let begun : State = record w { common = record (w.common) { rings = c.push.new.self } } in
    let begins : Begins w begun = begun_with w begun.common refl refl refl in
    let rings = pushed c.push.result c.push.new.self.items _ _ c.push.ensures.items went in
    let ring : c.join.new.self ≡ members_of (with_instance n (newest_in w.common)) =
    c.in_default.ensures.ok
    ∙ (λ d. members_of (with_instance (sym one.0 d) (c.newest.ensures d))) in
    let joins = joining n w begun c.join.new.self c.requires.consistent begins rings
    (ap (λ (r : Members). r.instances) ring) (ap (λ k. join_refusal k (newest_in w.common)) one.0 ∙ none)
    (ap (λ k. nat_le last_incarnation (incarnation_at k w.instances)) one.0 ∙ next) in
    let no = taken w (Joins n) joins.taken in
    let x = there n w.instances (exists_at n w.instances c.requires.consistent.numbered
    (subst (λ k. IsTrue (is_instance k)) (sym one.0) one.1)) in
    let member : is_among n (newest_in begun.common) ≡ true =
    ap (λ k. is_among k (newest_in begun.common)) (sym (number_of n w.instances x.0 x.1))
    ∙ (joins.may x.0 x.1).member in
    let new = map f (slice_set stores c.place.result c.come_up.new.store) in
    subst (λ k. LeavesShelves g.R.Rows.rejects w (Join k) c.come_up.new.self (map f stores) new) one.0
    (turned_put f stores c.place.result n c.place.ensures.place g.R.Rows.rejects w (Join n) c.come_up.new.self store
    c.come_up.new.store less found (λ j. refl) (λ j apart. turns_beside w n j apart)
    (λ some. joined_left n begun c.come_up.new.self (f store) (f c.come_up.new.store)
    c.come_up.ensures.turn.beside.common member c.come_up.ensures.left)
    (λ out. absurd (true≢false (sym (turns_joined w n no) ∙ out))))
