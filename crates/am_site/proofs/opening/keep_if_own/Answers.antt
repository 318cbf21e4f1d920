use Rattle.std.proofs.Common.{◌∙◌, ap, is_some, sym}
use Rattle.std.proofs.lemmas.Result.{on_ok_weaker}
use Rattle.am_rows.proofs.Wearing.{unworn}
use Rattle.am_site.proofs.Opened.{others_go, own_stay, position_tells}
use Rattle.am_site.proofs.opening.keep_if_own.Goals as goal

pub returns-then-is_some-clause-kept : goal.returns-then-is_some-clause-kept
returns-then-is_some-clause-kept g c = λ clean.
    let ring = c.args.ring.now.instances in
    let t = c.args.tenant.now in
    own_stay ring c.args.instance t (g.R.Rows.pairs c.args.store.now) (sym (position_tells t ring c.args.instance) ∙ ap is_some (sym c.position.ensures) ∙ sym c.is_some.ensures ∙ c.if-is_some.true)

pub returns-then-is_some-clause-wears : goal.returns-then-is_some-clause-wears
returns-then-is_some-clause-wears g c = λ clean. unworn (g.R.Rows.medium c.args.store.now)

pub returns-clause-kept : goal.returns-clause-kept
returns-clause-kept g c = λ clean.
    let ring = c.args.ring.now.instances in
    let t = c.args.tenant.now in
    on_ok_weaker c.drop_tenant.result
    (λ makes. others_go ring c.args.instance t (g.R.Rows.pairs c.args.store.now) (g.R.Rows.pairs c.drop_tenant.new.self)
    (sym (position_tells t ring c.args.instance) ∙ ap is_some (sym c.position.ensures) ∙ sym c.is_some.ensures ∙ c.if-is_some.false) makes)
    (c.drop_tenant.ensures.dropped clean)
