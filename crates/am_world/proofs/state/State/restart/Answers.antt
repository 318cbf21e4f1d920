use Rattle.std.proofs.Common.{◌≡◌, ◌∙◌, ◌+◌, ◌<◌, Option, arith, get_or, length, map, slice_set, subst, sym}
use Rattle.std.proofs.lemmas.List.{length-map, take_rest}
use Rattle.std.proofs.lemmas.Option.{slice_get-get_or}
use Rattle.am_item.specs.declared.fault.Fault.{Fault}
use Rattle.am_ring.specs.Instances.{all_instances}
use Rattle.am_instance.specs.Leaving.{LeavesOwn}
use Rattle.am_instance.specs.Shelves.{Shelf, shelf_of}
use Rattle.am_world.specs.Changing.{FollowsRestartAt, InTurn, Restarting, around_opening}
use Rattle.am_world.specs.Consistent.{around, newest_in}
use Rattle.am_world.specs.Leaving.{stop_at}
use Rattle.am_world.specs.Shelves.{shelf_at}
use Rattle.am_world.specs.declared.common.Common.{Common}
use Rattle.am_world.proofs.RestartTaken.{all_restarting, lower_beside, lower_exists, lower_may, upper_stop}
use Rattle.am_world.proofs.Shelved.{backed_put, cleaner_put, shelf_is, shelf_other, shelf_put}
use Rattle.am_world.proofs.state.State.restart.Goals as goal

pub next_incarnations-incarnations-requires : goal.next_incarnations-incarnations-requires
next_incarnations-incarnations-requires g c x found = (c.requires.may x found).next

pub come_up-requires-clause-exists : goal.come_up-requires-clause-exists
come_up-requires-clause-exists g c =
    lower_exists c.args.self.now c.follow_restart_all.new.self c.args.number c.place-at.result
    c.next_incarnations-incarnations.result c.place-at.ensures.place c.follow_restart_all.ensures.turns
    c.requires.exists

pub come_up-requires-clause-may : goal.come_up-requires-clause-may
come_up-requires-clause-may g c =
    lower_may c.args.self.now c.follow_restart_all.new.self c.args.number c.place-at.result
    c.next_incarnations-incarnations.result c.place-at.ensures.place c.follow_restart_all.ensures.turns c.requires.may

pub returns-clause-turns : goal.returns-clause-turns
returns-clause-turns g c =
    let w = c.args.self.now in
    let n = c.args.number in
    let p = c.place-at.result in
    let f = λ (r : g.row.R.Denot). shelf_of g.R.Rows r in
    let xs = c.args.stores.now in
    let size : length xs ≡ 8 = sym (length-map xs f) ∙ c.requires.backed.size in
    let less : p < length xs = omega (arith, size, c.place-at.ensures.range) in
    let store = get_or xs p c.index-stores-at.result in
    let found = slice_get-get_or xs p c.index-stores-at.result less in
    let y = c.come_up.new.store in
    let upper = c.come_up.new.self in
    let last = c.follow_restart_all-2.new.self in
    let around_upper = around upper.clock upper.common c.next_incarnations-incarnations.result in
    let after = subst (λ ns. InTurn (FollowsRestartAt around_upper n) ns upper last) (take_rest all_instances (p + 1))
    c.follow_restart_all-2.ensures.turns in
    subst (λ (a : Shelf). Restarting (around_opening n w) n a (shelf_at n (map f (slice_set xs p y))) w last)
    (sym (shelf_is f xs p n c.place-at.ensures.place store found))
    (subst (λ (b : Shelf). Restarting (around_opening n w) n (f store) b w last)
    (sym (shelf_put f xs p n c.place-at.ensures.place y less))
    (all_restarting w c.follow_restart_all.new.self n p c.next_incarnations-incarnations.result
    c.place-at.ensures.place c.follow_restart_all.ensures.turns upper last (f store) (f y)
    c.next_incarnations-incarnations.ensures c.come_up.ensures.turn after))

pub returns-clause-clean : goal.returns-clause-clean
returns-clause-clean g c =
    let p = c.place-at.result in
    let f = λ (r : g.row.R.Denot). shelf_of g.R.Rows r in
    let xs = c.args.stores.now in
    let size : length xs ≡ 8 = sym (length-map xs f) ∙ c.requires.backed.size in
    let less : p < length xs = omega (arith, size, c.place-at.ensures.range) in
    cleaner_put f xs p c.args.number c.place-at.ensures.place (get_or xs p c.index-stores-at.result)
    c.come_up.new.store less (slice_get-get_or xs p c.index-stores-at.result less) c.come_up.ensures.clean

pub returns-clause-backed : goal.returns-clause-backed
returns-clause-backed g c =
    let p = c.place-at.result in
    let f = λ (r : g.row.R.Denot). shelf_of g.R.Rows r in
    let xs = c.args.stores.now in
    let size : length xs ≡ 8 = sym (length-map xs f) ∙ c.requires.backed.size in
    let less : p < length xs = omega (arith, size, c.place-at.ensures.range) in
    c.follow_restart_all-2.ensures.backed (map f (slice_set xs p c.come_up.new.store))
    (backed_put f xs p c.args.number c.place-at.ensures.place c.follow_restart_all.new.self.instances
    c.come_up.new.self.instances c.come_up.new.store less c.come_up.ensures.turn.others.others
    c.come_up.ensures.backed (c.follow_restart_all.ensures.backed (map f xs) c.requires.backed))

pub returns-clause-others : goal.returns-clause-others
returns-clause-others g c j apart =
    let p = c.place-at.result in
    let f = λ (r : g.row.R.Denot). shelf_of g.R.Rows r in
    let xs = c.args.stores.now in
    let size : length xs ≡ 8 = sym (length-map xs f) ∙ c.requires.backed.size in
    let less : p < length xs = omega (arith, size, c.place-at.ensures.range) in
    shelf_other f xs p c.args.number c.place-at.ensures.place j c.come_up.new.store less apart

pub returns-clause-left : goal.returns-clause-left
returns-clause-left g c =
    let w = c.args.self.now in
    let n = c.args.number in
    let p = c.place-at.result in
    let f = λ (r : g.row.R.Denot). shelf_of g.R.Rows r in
    let xs = c.args.stores.now in
    let size : length xs ≡ 8 = sym (length-map xs f) ∙ c.requires.backed.size in
    let less : p < length xs = omega (arith, size, c.place-at.ensures.range) in
    let store = get_or xs p c.index-stores-at.result in
    let found = slice_get-get_or xs p c.index-stores-at.result less in
    let y = c.come_up.new.store in
    let upper = c.come_up.new.self in
    let last = c.follow_restart_all-2.new.self in
    let ks = c.next_incarnations-incarnations.result in
    let after = subst (λ ns. InTurn (FollowsRestartAt (around upper.clock upper.common ks) n) ns upper last)
    (take_rest all_instances (p + 1)) c.follow_restart_all-2.ensures.turns in
    let beside = lower_beside w c.follow_restart_all.new.self n p ks c.place-at.ensures.place
    c.follow_restart_all.ensures.turns in
    subst (λ (a : Shelf). LeavesOwn (newest_in w.common) n (stop_at n last.instances) a (shelf_at n (map f (slice_set xs p y))))
    (sym (shelf_is f xs p n c.place-at.ensures.place store found))
    (subst (λ (b : Shelf). LeavesOwn (newest_in w.common) n (stop_at n last.instances) (f store) b)
    (sym (shelf_put f xs p n c.place-at.ensures.place y less))
    (subst (λ (o : Option Fault). LeavesOwn (newest_in w.common) n o (f store) (f y))
    (sym (upper_stop upper last n p ks c.place-at.ensures.place after))
    (subst (λ (b : Common). LeavesOwn (newest_in b) n (stop_at n upper.instances) (f store) (f y)) beside.common
    c.come_up.ensures.left)))
