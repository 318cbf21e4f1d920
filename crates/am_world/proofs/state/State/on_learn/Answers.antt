use Rattle.std.proofs.Common.{◌≡◌, ◌∙◌, ◌<◌, IsTrue, Option, ap, arith, get_or, is_some, length, map, refl, slice_set}
use Rattle.std.proofs.Common.{subst, sym}
use Rattle.std.proofs.lemmas.Bool.{true≢false}
use Rattle.std.proofs.lemmas.List.{length-map}
use Rattle.std.proofs.lemmas.Option.{slice_get-get_or}
use Rattle.am_cluster.specs.Events.{Learn}
use Rattle.am_cluster.specs.Refused.{Refused}
use Rattle.am_cluster.specs.Roster.{Learns}
use Rattle.am_ring.proofs.Numbers.{made}
use Rattle.am_ring.specs.Instances.{is_instance}
use Rattle.am_instance.specs.Shelves.{shelf_of}
use Rattle.am_world.specs.Changing.{IsBehind}
use Rattle.am_world.specs.Consistent.{over}
use Rattle.am_world.specs.Leaving.{LeavesShelves}
use Rattle.am_world.specs.Places.{At}
use Rattle.am_world.specs.Refusal.{refusal}
use Rattle.am_world.specs.Stopping.{Step}
use Rattle.am_world.proofs.KeptLearn.{learn_behind}
use Rattle.am_world.proofs.KeptRefusedRing.{step_refused}
use Rattle.am_world.proofs.LearnStep.{learn_elsewhere, learn_nothing, learn_step, learn_taken, learn_there}
use Rattle.am_world.proofs.LearnStep.{learn_turned, learn_untouched, learner_is}
use Rattle.am_world.proofs.Shelved.{backed_put, backed_there, cleaner_put, shelf_other, turned_put}
use Rattle.am_world.proofs.Stopped.{exists_at}
use Rattle.am_world.proofs.state.State.on_learn.Goals as goal

-- ---- it has none to learn

pub returns-then-not-is_behind-clause-step : goal.returns-then-not-is_behind-clause-step
returns-then-not-is_behind-clause-step g c =
    let w = c.args.self.now in
    let i = c.args.instance in
    step_refused w (Learns i)
    (ap (λ (o : Option Refused). is_some o)
    (learn_nothing w i (sym c.is_behind.ensures ∙ c.if-not-is_behind.true)))
    (map (shelf_of g.R.Rows) c.args.stores.now)

pub returns-then-not-is_behind-clause-refused : goal.returns-then-not-is_behind-clause-refused
returns-then-not-is_behind-clause-refused g c =
    rw (learn_nothing c.args.self.now c.args.instance (sym c.is_behind.ensures ∙ c.if-not-is_behind.true)) refl

pub returns-then-not-is_behind-clause-left : goal.returns-then-not-is_behind-clause-left
returns-then-not-is_behind-clause-left g c =
    learn_untouched g.R.Rows.rejects c.args.self.now c.args.instance (map (shelf_of g.R.Rows) c.args.stores.now)
    (sym c.is_behind.ensures ∙ c.if-not-is_behind.true)

-- ---- it learns, or stops on the way

pub unwrap-number-requires : goal.unwrap-number-requires
unwrap-number-requires g c =
    let w = c.args.self.now in
    let i = c.args.instance in
    let none = learn_taken w i (sym c.is_behind.ensures ∙ c.if-not-is_behind.false) in
    rw (c.new.ensures, learner_is w i none c.requires.consistent) refl

pub learn-requires-clause-exists : goal.learn-requires-clause-exists
learn-requires-clause-exists g c =
    let one = made c.args.instance c.unwrap-number.result (sym c.unwrap-number.ensures ∙ c.new.ensures) in
    exists_at c.unwrap-number.result c.args.self.now.instances c.requires.consistent.numbered
    (subst (λ k. IsTrue (is_instance k)) (sym one.0) one.1)

pub learn-requires-clause-may : goal.learn-requires-clause-may
learn-requires-clause-may g c =
    let w = c.args.self.now in
    let i = c.args.instance in
    let none = learn_taken w i (sym c.is_behind.ensures ∙ c.if-not-is_behind.false) in
    let one = made i c.unwrap-number.result (sym c.unwrap-number.ensures ∙ c.new.ensures) in
    subst (λ k. At k (IsBehind w.common.rings.items) w.instances) (sym one.0)
    (learn_behind w i none c.requires.consistent).1

pub learn-requires-clause-backed : goal.learn-requires-clause-backed
learn-requires-clause-backed g c =
    let f = λ (r : g.row.R.Denot). shelf_of g.R.Rows r in
    let xs = c.args.stores.now in
    let size : length xs ≡ 8 = sym (length-map xs f) ∙ c.requires.backed.size in
    let less : c.place.result < length xs = omega (arith, size, c.place.ensures.range) in
    backed_there f xs c.place.result c.unwrap-number.result c.place.ensures.place c.args.self.now.instances
    (get_or xs c.place.result c.index-stores-place.result)
    (slice_get-get_or xs c.place.result c.index-stores-place.result less) c.requires.backed

pub returns-clause-step : goal.returns-clause-step
returns-clause-step g c =
    let w = c.args.self.now in
    let i = c.args.instance in
    let none = learn_taken w i (sym c.is_behind.ensures ∙ c.if-not-is_behind.false) in
    let n = c.unwrap-number.result in
    let p = c.place.result in
    let one = made i n (sym c.unwrap-number.ensures ∙ c.new.ensures) in
    let f = λ (r : g.row.R.Denot). shelf_of g.R.Rows r in
    let xs = c.args.stores.now in
    let size : length xs ≡ 8 = sym (length-map xs f) ∙ c.requires.backed.size in
    let less : p < length xs = omega (arith, size, c.place.ensures.range) in
    let store = get_or xs p c.index-stores-place.result in
    let found = slice_get-get_or xs p c.index-stores-place.result less in
    let y = c.learn.new.store in
    let exists = exists_at n w.instances c.requires.consistent.numbered
    (subst (λ k. IsTrue (is_instance k)) (sym one.0) one.1) in
    subst (λ k. Step (over w (map f xs)) (Learn k) (over c.learn.new.self (map f (slice_set xs p y)))) one.0
    (learn_step w c.learn.new.self n (ap (λ k. refusal w (Learn k)) one.0 ∙ none) c.requires.consistent
    c.learn.ensures.turn exists (map f xs) (map f (slice_set xs p y))
    (cleaner_put f xs p n c.place.ensures.place store y less found c.learn.ensures.clean)
    (λ j apart. shelf_other f xs p n c.place.ensures.place j y less apart))

pub returns-clause-refused : goal.returns-clause-refused
returns-clause-refused g c =
    rw (learn_taken c.args.self.now c.args.instance (sym c.is_behind.ensures ∙ c.if-not-is_behind.false)) refl

pub returns-clause-backed : goal.returns-clause-backed
returns-clause-backed g c =
    let p = c.place.result in
    let f = λ (r : g.row.R.Denot). shelf_of g.R.Rows r in
    let xs = c.args.stores.now in
    let size : length xs ≡ 8 = sym (length-map xs f) ∙ c.requires.backed.size in
    let less : p < length xs = omega (arith, size, c.place.ensures.range) in
    backed_put f xs p c.unwrap-number.result c.place.ensures.place c.args.self.now.instances
    c.learn.new.self.instances c.learn.new.store less c.learn.ensures.turn.others.others c.learn.ensures.backed
    c.requires.backed

pub returns-clause-left : goal.returns-clause-left
returns-clause-left g c =
    let w = c.args.self.now in
    let i = c.args.instance in
    let none = learn_taken w i (sym c.is_behind.ensures ∙ c.if-not-is_behind.false) in
    let n = c.unwrap-number.result in
    let p = c.place.result in
    let one = made i n (sym c.unwrap-number.ensures ∙ c.new.ensures) in
    let f = λ (r : g.row.R.Denot). shelf_of g.R.Rows r in
    let xs = c.args.stores.now in
    let size : length xs ≡ 8 = sym (length-map xs f) ∙ c.requires.backed.size in
    let less : p < length xs = omega (arith, size, c.place.ensures.range) in
    let store = get_or xs p c.index-stores-place.result in
    let found = slice_get-get_or xs p c.index-stores-place.result less in
    let y = c.learn.new.store in
    let exists = exists_at n w.instances c.requires.consistent.numbered
    (subst (λ k. IsTrue (is_instance k)) (sym one.0) one.1) in
    subst (λ k. LeavesShelves g.R.Rows.rejects w (Learn k) c.learn.new.self (map f xs) (map f (slice_set xs p y))) one.0
    (turned_put f xs p n c.place.ensures.place g.R.Rows.rejects w (Learn n) c.learn.new.self store y less found
    (λ j. refl) (λ j apart. learn_elsewhere w n j apart)
    (λ some. learn_turned w c.learn.new.self n (f store) (f y) exists c.learn.ensures.left)
    (λ out. absurd (true≢false
    (sym (learn_there w n (ap (λ k. refusal w (Learn k)) one.0 ∙ none)) ∙ out))))
