use Rattle.std.proofs.Common.{◌≡◌, ◌∙◌, IfOk, ap, cond, rules, subst, unwrap_or}
use Rattle.std.specs.BTreeMap.Entry.{map_with_value}
use Rattle.std.proofs.lemmas.Result.{on_err_weaker, on_ok_weaker}
use Rattle.am_tenant.specs.Names.{same}
use Rattle.am_item.specs.Best.{IsRising, joined}
use Rattle.am_book.specs.Book.{is_new, items_of}
use Rattle.am_book.proofs.Lists.{held_after, items_after, items_found, items_put_back, items_same, items_unchanged, at_error, held_unchanged, rising_after, rising_found, told_found, told_put, told_unchanged, whole_same}
use Rattle.am_book.proofs.book.Book.put.Goals as goal

pub invariant_of-self-2 : goal.invariant_of-self-2
invariant_of-self-2 c =
    let entry = c.in_ok-self-inside.ensures in
    let lists = c.self.inside.tenants in
    let was = c.or_insert-held.result.now in
    let now = c.put_in.new.held in
    let after = map_with_value c.in_ok-self-inside.field-0 now in
    let up : IsRising was = rw (c.or_insert-held.ensures.value, entry.value) (rising_found lists c.args.tenant.now c.in_ok-nothing.nothing c.self.invariant.0 (c.in_ok-nothing.ensures.same ∙ c.self.invariant.1)) in
    whole_same _ after c.put_in.new.rows c.self.inside.nothing
    (held_after lists after c.args.tenant.now now c.self.invariant.0 (entry.update.2 now) (entry.update.1 now)
    (rising_after c.put_in.result was now c.args.item c.put_in.ensures.joined c.put_in.ensures.err up))
    c.self.invariant.1
    (told_put lists after c.self.inside.rows c.put_in.new.rows c.args.tenant.now now c.self.invariant.2 (entry.update.0 now).0 c.put_in.ensures.told)
    (search rules)

pub put_in-requires-clause-rising : goal.put_in-requires-clause-rising
put_in-requires-clause-rising c =
    let entry = c.in_ok-self-inside.ensures in
    rw (c.or_insert-held.ensures.value, entry.value)
    (rising_found c.self.inside.tenants c.args.tenant.now c.in_ok-nothing.nothing c.self.invariant.0 (c.in_ok-nothing.ensures.same ∙ c.self.invariant.1))

pub put_in-requires-clause-told : goal.put_in-requires-clause-told
put_in-requires-clause-told c =
    let entry = c.in_ok-self-inside.ensures in
    told_found c.self.inside.tenants c.self.inside.rows c.args.tenant.now c.or_insert-held.result.now c.in_ok-nothing.nothing c.self.invariant.2 (c.in_ok-nothing.ensures.same ∙ c.self.invariant.1)
    (c.or_insert-held.ensures.value ∙ ap (λ o. unwrap_or o c.in_ok-nothing.nothing) entry.value)

pub invariant_of-self : goal.invariant_of-self
invariant_of-self c =
    let stay : c.entry.follows.lender-at-none.entries ≡ c.self.inside.tenants.entries = search rules in
    let back = c.entry.follows.lender-at-none in
    (held_unchanged back c.self.inside.tenants stay c.self.invariant.0, c.self.invariant.1, told_unchanged back c.self.inside.tenants c.self.inside.rows stay c.self.invariant.2)

pub returns-clause-joined : goal.returns-clause-joined
returns-clause-joined c =
    let entry = c.in_ok-self-inside.ensures in
    let lists = c.self.inside.tenants in
    let was = c.or_insert-held.result.now in
    let now = c.put_in.new.held in
    on_ok_weaker c.put_in.result
    (λ joins t.
    items_same t _ (map_with_value c.in_ok-self-inside.field-0 now) _
    (items_after lists (map_with_value c.in_ok-self-inside.field-0 now) c.args.tenant.now now was c.in_ok-nothing.nothing c.args.item c.self.invariant.0
    (entry.update.2 now) (entry.update.0 now).0 (c.in_ok-nothing.ensures.same ∙ c.self.invariant.1) (c.or_insert-held.ensures.value ∙ ap (λ o. unwrap_or o c.in_ok-nothing.nothing) entry.value) joins t
    ∙ ap (λ held. cond (same t c.args.tenant.now) (joined (items_of t held) c.args.item) (items_of t held)) c.self.view_is)
    (search rules))
    c.put_in.ensures.joined

pub returns-in_err-self-inside-clause-err : goal.returns-in_err-self-inside-clause-err
returns-in_err-self-inside-clause-err c =
    let stay : c.entry.follows.lender-at-none.entries ≡ c.self.inside.tenants.entries = search rules in
    at_error c.from_residual-in_err-self-inside.result (λ t. items_unchanged t _ _ stay ∙ ap (items_of t) c.self.view_is)

pub returns-clause-err : goal.returns-clause-err
returns-clause-err c =
    let entry = c.in_ok-self-inside.ensures in
    let lists = c.self.inside.tenants in
    let was = c.or_insert-held.result.now in
    let now = c.put_in.new.held in
    on_err_weaker c.put_in.result
    (λ back t.
    items_same t _ (map_with_value c.in_ok-self-inside.field-0 now) _
    (items_put_back lists (map_with_value c.in_ok-self-inside.field-0 now) c.args.tenant.now now was c.in_ok-nothing.nothing c.self.invariant.0
    (entry.update.2 now) (entry.update.0 now).0 (c.in_ok-nothing.ensures.same ∙ c.self.invariant.1) (c.or_insert-held.ensures.value ∙ ap (λ o. unwrap_or o c.in_ok-nothing.nothing) entry.value) back t
    ∙ ap (items_of t) c.self.view_is)
    (search rules))
    c.put_in.ensures.err

pub returns-clause-new : goal.returns-clause-new
returns-clause-new c =
    let entry = c.in_ok-self-inside.ensures in
    let t = c.args.tenant.now in
    let was = c.or_insert-held.result.now in
    let held : was ≡ items_of t c.args.self.now =
    items_found c.self.inside.tenants t was c.in_ok-nothing.nothing c.self.invariant.0 (c.in_ok-nothing.ensures.same ∙ c.self.invariant.1) (c.or_insert-held.ensures.value ∙ ap (λ o. unwrap_or o c.in_ok-nothing.nothing) entry.value)
    ∙ ap (items_of t) c.self.view_is in
    subst (λ xs. IfOk c.put_in.result (λ new. new ≡ is_new xs c.args.item)) held c.put_in.ensures.new
