use Rattle.std.proofs.Common.{◌≡◌, arith, get_or, subst, suc}
use Rattle.am_world.specs.Opening.{FailsWith}
use Rattle.am_world.proofs.Opened.{down_at, none_opened, ring_first, turn_clean, turn_given, turn_number}
use Rattle.am_world.proofs.Opened.{turn_left, turn_taken}
use Rattle.am_world.proofs.OpenedWorld.{backed, consistent, fails_to_open, if_refused, opens}
use Rattle.am_world.proofs.state.State.open.Goals as goal

pub loop-number-init : goal.loop-number-init
loop-number-init g c =
    none_opened g.R.Rows c.args.setup.origin c.args.stores.now c.in_ok-state.state c.requires c.in_ok-state.ensures

pub open_at-requires-clause-down : goal.open_at-requires-clause-down
open_at-requires-clause-down g c =
    let setting = c.args.setup.origin in
    let old = c.args.stores.now in
    let loop = c.loop-number in
    let k = loop.number-index in
    let low = c.loop-number-test.true in
    let i = c.unwrap-number.result in
    let next = turn_number k i c.new.result low c.new.ensures c.unwrap-number.ensures in
    down_at g.R.Rows setting k i old loop.stores loop.state next low loop.invariant

pub open_at-requires-clause-whole : goal.open_at-requires-clause-whole
open_at-requires-clause-whole g c = c.loop-number.invariant.whole c.unwrap-number.result

pub loop-number-preserved : goal.loop-number-preserved
loop-number-preserved g c =
    let setting = c.args.setup.origin in
    let old = c.args.stores.now in
    let loop = c.loop-number in
    let k = loop.number-index in
    let low = c.loop-number-test.true in
    let i = c.unwrap-number.result in
    let next = turn_number k i c.new.result low c.new.ensures c.unwrap-number.ensures in
    turn_taken g.R.Rows setting k c.place.result i old loop.stores loop.state c.place.ensures.place next low
    loop.invariant c.open_at.new.store c.index-stores-place.result c.open_at.new.self
    c.in_ok-open_at.ensures.beside c.in_ok-open_at.ensures.opens c.in_ok-open_at.ensures.clean

pub returns-in_err-open_at-clause-clean : goal.returns-in_err-open_at-clause-clean
returns-in_err-open_at-clause-clean g c =
    let setting = c.args.setup.origin in
    let old = c.args.stores.now in
    let loop = c.loop-number in
    let k = loop.number-index in
    let low = c.loop-number-test.true in
    let i = c.unwrap-number.result in
    let next = turn_number k i c.new.result low c.new.ensures c.unwrap-number.ensures in
    turn_clean g.R.Rows setting k c.place.result i old loop.stores loop.state c.place.ensures.place next low
    loop.invariant c.open_at.new.store c.index-stores-place.result c.in_err-open_at.ensures.clean

pub returns-in_err-open_at-clause-left : goal.returns-in_err-open_at-clause-left
returns-in_err-open_at-clause-left g c =
    let setting = c.args.setup.origin in
    let old = c.args.stores.now in
    let loop = c.loop-number in
    let k = loop.number-index in
    let low = c.loop-number-test.true in
    let i = c.unwrap-number.result in
    let next = turn_number k i c.new.result low c.new.ensures c.unwrap-number.ensures in
    turn_left g.R.Rows setting k c.place.result i old loop.stores loop.state c.place.ensures.place next low
    loop.invariant c.open_at.new.store c.index-stores-place.result c.in_err-open_at.ensures.fails.member

pub returns-in_err-open_at-clause-refused : goal.returns-in_err-open_at-clause-refused
returns-in_err-open_at-clause-refused g c =
    let setting = c.args.setup.origin in
    let old = c.args.stores.now in
    let loop = c.loop-number in
    let k = loop.number-index in
    let low = c.loop-number-test.true in
    let i = c.unwrap-number.result in
    let next = turn_number k i c.new.result low c.new.ensures c.unwrap-number.ensures in
    let place : suc k ≡ i = omega (arith, next) in
    let x = get_or loop.stores c.place.result c.index-stores-place.result in
    let y = c.open_at.new.store in
    let why = c.in_err-open_at.field-0.0 in
    let first = ring_first g.R.Rows setting k i old loop.stores loop.state next low loop.invariant in
    let given = turn_given g.R.Rows setting k c.place.result i old loop.stores loop.state c.place.ensures.place next
    low loop.invariant y c.index-stores-place.result in
    if_refused c.from_residual-in_err-open_at.result why _ c.from_residual-in_err-open_at.ensures.1
    (fails_to_open g.R.Rows setting.ring old k i x y why place given
    (subst (λ ring. FailsWith g.R.Rows ring i x y why) first c.in_err-open_at.ensures.fails))

pub returns-clause-opens : goal.returns-clause-opens
returns-clause-opens g c =
    let loop = c.loop-number in
    opens g.R.Rows c.args.setup.origin loop.number-index c.args.stores.now loop.stores loop.state
    c.loop-number-test.false loop.auto.number-index-end loop.invariant

pub returns-clause-consistent : goal.returns-clause-consistent
returns-clause-consistent g c =
    let loop = c.loop-number in
    consistent g.R.Rows c.args.setup.origin loop.number-index c.args.stores.now loop.stores loop.state
    c.loop-number-test.false loop.auto.number-index-end loop.invariant

pub returns-clause-backed : goal.returns-clause-backed
returns-clause-backed g c =
    let loop = c.loop-number in
    backed g.R.Rows c.args.setup.origin loop.number-index c.args.stores.now loop.stores loop.state
    c.loop-number-test.false loop.auto.number-index-end loop.invariant

pub returns-clause-left : goal.returns-clause-left
returns-clause-left g c = c.loop-number.invariant.left
