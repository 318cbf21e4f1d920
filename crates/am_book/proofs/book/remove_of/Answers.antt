use Rattle.std.proofs.Common.{IsSome, refl}
use Rattle.std.specs.BTreeMap.{get}
use Rattle.std.specs.Cmp.Lexicographic.{slice_cmp}
use Rattle.std.specs.Ordering.{nat_cmp}
use Rattle.std.proofs.lemmas.Result.{on_err_weaker, on_ok_weaker}
use Rattle.am_item.proofs.Removed.{lacks_key}
use Rattle.am_book.proofs.Dropping.{rising_left}
use Rattle.am_book.proofs.Fewer.{length-removed}
use Rattle.am_book.proofs.Lists.{held_missed, held_passed, held_stayed, held_written, rising_there}
use Rattle.am_book.proofs.book.remove_of.Goals as goal

pub returns-in-Some-clause-held : goal.returns-in-Some-clause-held
returns-in-Some-clause-held c =
    let written = c.get_mut.follows.holds c.remove.new.self in
    let there : IsSome (get (slice_cmp nat_cmp) c.args.tenants.now c.args.row.now.tenant) = rw (← c.in-Some.ensures.value) refl in
    on_ok_weaker c.remove.result
    (λ gone.
    held_passed c.args.tenants.now (c.get_mut.follows.lender c.remove.new.self) c.args.row.now.tenant (lacks_key c.args.row.now.key) c.in-Some.held.now c.remove.new.self
    c.in-Some.ensures.value gone (written.3 there).0)
    c.remove.ensures.removed

pub returns-in-Some-clause-err : goal.returns-in-Some-clause-err
returns-in-Some-clause-err c =
    let written = c.get_mut.follows.holds c.remove.new.self in
    let there : IsSome (get (slice_cmp nat_cmp) c.args.tenants.now c.args.row.now.tenant) = rw (← c.in-Some.ensures.value) refl in
    on_err_weaker c.remove.result
    (λ stay.
    held_stayed c.args.tenants.now (c.get_mut.follows.lender c.remove.new.self) c.args.row.now.tenant c.in-Some.held.now c.remove.new.self
    c.in-Some.ensures.value stay (written.3 there).0)
    c.remove.ensures.err

pub returns-in-Some-clause-ordered : goal.returns-in-Some-clause-ordered
returns-in-Some-clause-ordered c =
    let written = c.get_mut.follows.holds c.remove.new.self in
    let was = c.in-Some.held.now in
    held_written c.args.tenants.now (c.get_mut.follows.lender c.remove.new.self) c.args.row.now.tenant c.remove.new.self c.requires written.4 written.0
    (rising_left c.remove.result (lacks_key c.args.row.now.key) was c.remove.new.self c.remove.ensures.removed c.remove.ensures.err
    (rising_there c.args.tenants.now c.args.row.now.tenant was c.requires c.in-Some.ensures.value))

pub returns-in-Some-clause-fewer : goal.returns-in-Some-clause-fewer
returns-in-Some-clause-fewer c =
    let written = c.get_mut.follows.holds c.remove.new.self in
    let was = c.in-Some.held.now in
    on_ok_weaker c.remove.result
    (λ gone there.
    length-removed c.args.tenants.now (c.get_mut.follows.lender c.remove.new.self) c.args.row.now.tenant c.args.row.now.key
    was c.remove.new.self c.in-Some.ensures.value written.0 gone
    (rising_there c.args.tenants.now c.args.row.now.tenant was c.requires c.in-Some.ensures.value) there)
    c.remove.ensures.removed

pub returns-in-None-clause-held : goal.returns-in-None-clause-held
returns-in-None-clause-held c = λ t.
    rw c.get_mut.follows.holds-at-none (held_missed c.args.tenants.now c.args.row.now.tenant (lacks_key c.args.row.now.key) c.in-None.ensures.value t)

pub returns-in-None-clause-ordered : goal.returns-in-None-clause-ordered
returns-in-None-clause-ordered c = rw c.get_mut.follows.holds-at-none c.requires
