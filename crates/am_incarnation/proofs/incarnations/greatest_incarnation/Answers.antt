use Rattle.std.proofs.Common.{◌≡◌, ◌∙◌, ap, rules, sym, true}
use Rattle.std.specs.List.{list_any}
use Rattle.std.proofs.lemmas.Result.{IfErr-weaker, IfOk-weaker}
use Rattle.am_tenant.specs.Names.{same}
use Rattle.am_rows.specs.Rows.{Keeps}
use Rattle.am_rows.proofs.Wearing.{judged_later, wears_then}
use Rattle.am_incarnation.proofs.Greatest.{bound_of, reached_of}
use Rattle.am_incarnation.proofs.incarnations.greatest_incarnation.Goals as goal

pub returns-clause-greatest : goal.returns-clause-greatest
returns-clause-greatest g c clean =
    let read : g.R.Rows.is_clean c.tenants.new.self ≡ true = c.greatest_of.ensures.clean clean in
    let opened : g.R.Rows.is_clean c.open.new.self ≡ true = c.in_ok-tenants.ensures.clean read in
    let before = g.R.Rows.pairs c.args.store.now in
    let found = g.R.Rows.pairs c.open.new.self in
    let now = g.R.Rows.pairs c.tenants.new.self in
    let kept : Keeps before found = c.in_ok-open.ensures.opened opened in
    let stayed : Keeps found now = c.in_ok-tenants.ensures.stays read in
    IfOk-weaker c.greatest_of.result _ _
    (λ n greatest. record {
      bound = λ t. bound_of n t c.deref.result.now before found now kept stayed
          (λ none. c.in_ok-tenants.ensures.names read t (ap (list_any (same t)) (sym c.deref.ensures.value) ∙ none)) greatest.0;
      reached = reached_of n before now (λ t. stayed t ∙ kept t) greatest.1;
    })
    (c.greatest_of.ensures.greatest clean)

pub returns-in_err-tenants-clause-fails : goal.returns-in_err-tenants-clause-fails
returns-in_err-tenants-clause-fails g c = λ clean.
    let judged = judged_later (g.R.Rows.medium c.args.store.now) (g.R.Rows.medium c.open.new.self) (g.R.Rows.medium c.tenants.new.self)
    (c.open.ensures.wears (c.tenants.ensures.clean clean)) (c.tenants.ensures.wears clean) (g.R.Rows.is_foreign c.args.store.now) _ (c.in_err-tenants.ensures.fails clean) in
    search rules

pub returns-clause-fails : goal.returns-clause-fails
returns-clause-fails g c = λ clean.
    let m = g.R.Rows.medium in
    let read = c.greatest_of.ensures.clean clean in
    let opened = c.tenants.ensures.clean read in
    IfErr-weaker c.greatest_of.result _ _
    (judged_later (m c.args.store.now) (m c.tenants.new.self) (m c.greatest_of.new.store)
    (wears_then (m c.args.store.now) (m c.open.new.self) (m c.tenants.new.self) (c.open.ensures.wears opened) (c.tenants.ensures.wears read))
    (c.greatest_of.ensures.wears clean) (g.R.Rows.is_foreign c.args.store.now))
    (c.greatest_of.ensures.fails clean)
