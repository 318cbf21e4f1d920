use Rattle.std.proofs.Common.{◌≡◌, ◌∙◌, ◌<◌, ◌≤◌, IsSome, [], ◌∷◌, ◌++◌, arith, get_or, length, map, refl, true}
use Rattle.std.proofs.Common.{slice_set, sym, ap, subst, take}
use Rattle.std.proofs.lemmas.Bool.Decides.{nat_tests}
use Rattle.std.proofs.lemmas.List.{length-map, take_all, take_more}
use Rattle.std.proofs.lemmas.Option.{slice_get-get_or}
use Rattle.am_ring.specs.Instances.{all_instances, is_among}
use Rattle.am_instance.specs.Leaving.{LeavesShelf}
use Rattle.am_instance.specs.Shelves.{shelf_of}
use Rattle.am_instance.specs.Node.{retired}
use Rattle.am_world.specs.Leaving.{stop_at, stored_of}
use Rattle.am_world.specs.Ticks.{TakeTurns}
use Rattle.am_world.proofs.Shelved.{backed_put, backed_there, cleaner_put, cleaner_then, never_cleaner}
use Rattle.am_world.proofs.TickPlaces.{standing}
use Rattle.am_world.proofs.TickShelves.{LeftAt, Turned, among_is, number_is, turned_all, turned_more, turned_none}
use Rattle.am_world.proofs.TickShelves.{unwrapped}
use Rattle.am_world.proofs.TickTurns.{turns_more}
use Rattle.am_world.proofs.state.State.tick_all.Goals as goal

pub loop-number-init : goal.loop-number-init
loop-number-init g c = (
  refl,
  refl,
  c.requires.consistent,
  c.requires.backed,
  never_cleaner (map (shelf_of g.R.Rows) c.args.stores.now),
  λ i. turned_none (shelf_of g.R.Rows) c.args.self.now.clock c.args.self.now c.args.stores.now i
      c.requires.consistent.numbered,
)

pub tick_at-requires-clause-exists : goal.tick_at-requires-clause-exists
tick_at-requires-clause-exists g c =
    let i = c.loop-number.number-index in
    let low : i < 8 = c.loop-number-test.true in
    let is = unwrapped i (get_or all_instances i 0) c.unwrap-number.result c.new.result low (number_is i low)
    c.new.ensures c.unwrap-number.ensures in
    let s = standing c.unwrap-number.result c.loop-number.self.instances c.loop-number.invariant.2.numbered
    (subst (λ k. is_among k all_instances ≡ true) (sym is) (among_is i low)) in
    subst IsSome (sym s.1) refl

pub tick_at-requires-clause-backed : goal.tick_at-requires-clause-backed
tick_at-requires-clause-backed g c =
    let f = λ (r : g.row.R.Denot). shelf_of g.R.Rows r in
    let xs = c.loop-number.stores in
    let size : length xs ≡ 8 = sym (length-map xs f) ∙ c.loop-number.invariant.3.size in
    let less : c.place.result < length xs = omega (arith, size, c.place.ensures.range) in
    backed_there f xs c.place.result c.unwrap-number.result c.place.ensures.place c.loop-number.self.instances
    (get_or xs c.place.result c.index-stores-place.result)
    (slice_get-get_or xs c.place.result c.index-stores-place.result less)
    c.loop-number.invariant.3

pub loop-number-preserved : goal.loop-number-preserved
loop-number-preserved g c =
    let i = c.loop-number.number-index in
    let low : i < 8 = c.loop-number-test.true in
    let n = c.unwrap-number.result in
    let p = c.place.result in
    let f = λ (r : g.row.R.Denot). shelf_of g.R.Rows r in
    let xs = c.loop-number.stores in
    let w = c.args.self.now in
    let mid = c.loop-number.self in
    let new = c.tick_at.new.self in
    let x = get_or xs p c.index-stores-place.result in
    let y = c.tick_at.new.store in
    let is = unwrapped i (get_or all_instances i 0) n c.new.result low (number_is i low) c.new.ensures
    c.unwrap-number.ensures in
    let size : length xs ≡ 8 = sym (length-map xs f) ∙ c.loop-number.invariant.3.size in
    let less : p < length xs = omega (arith, size, c.place.ensures.range) in
    let found = slice_get-get_or xs p c.index-stores-place.result less in
    let placed : p ≡ i = omega (arith, is, c.place.ensures.place) in
    let clock : mid.clock ≡ w.clock = c.loop-number.invariant.1 in
    let others = c.tick_at.ensures.turn.others.others in
    let left : LeftAt w.clock mid new n (f x) (f y) = (
      λ up. subst (λ m. LeavesShelf (stored_of mid n) (λ t. retired m (stored_of mid n t)) ⊥
          (stop_at n new.instances) (f x) (f y)) clock (c.tick_at.ensures.left up),
      λ down. ap f (c.tick_at.ensures.idle down),
    ) in (
      subst (λ ns. TakeTurns ns w new)
          (ap (λ k. take i all_instances ++ k ∷ []) (is ∙ sym (number_is i low))
          ∙ sym (take_more all_instances i 0 low))
          (turns_more (take i all_instances) n w mid new c.loop-number.invariant.0 c.tick_at.ensures.turn),
      c.tick_at.ensures.turn.beside.clock ∙ clock,
      c.tick_at.ensures.consistent,
      backed_put f xs p n c.place.ensures.place mid.instances new.instances y less others c.tick_at.ensures.backed
          c.loop-number.invariant.3,
      cleaner_then (map f c.args.stores.now) (map f xs) (map f (slice_set xs p y)) c.loop-number.invariant.4
          (cleaner_put f xs p n c.place.ensures.place x y less found c.tick_at.ensures.clean),
      λ j. subst (λ k. Turned f w.clock k w new c.args.stores.now (slice_set xs p y) j) is
          (turned_more f w.clock p n c.place.ensures.place w mid new c.args.stores.now xs x y less found others left j
          (subst (λ k. Turned f w.clock k w mid c.args.stores.now xs j) (sym placed) (c.loop-number.invariant.5 j))),
    )

pub returns-clause-turns : goal.returns-clause-turns
returns-clause-turns g c =
    let over : 8 ≤ c.loop-number.number-index = grind (arith, nat_tests) in
    subst (λ ns. TakeTurns ns c.args.self.now c.loop-number.self)
    (take_all c.loop-number.number-index all_instances over)
    c.loop-number.invariant.0

pub returns-clause-left : goal.returns-clause-left
returns-clause-left g c =
    let over : 8 ≤ c.loop-number.number-index = grind (arith, nat_tests) in
    let f = λ (r : g.row.R.Denot). shelf_of g.R.Rows r in
    turned_all f g.R.Rows.rejects c.args.self.now.clock c.loop-number.number-index c.args.self.now c.loop-number.self
    c.args.stores.now c.loop-number.stores over c.requires.consistent.numbered c.loop-number.invariant.5
