use Rattle.std.proofs.Common.{◌∙◌, refl, sym}
use Rattle.std.proofs.lemmas.Result.{IfErr-weaker, err_from_is_err_and}
use Rattle.am_instance.specs.Shelves.{shelf_of}
use Rattle.am_instance.proofs.Dropping.{left_none, stops_leaving}
use Rattle.am_instance.proofs.Learns.{left_untouched}
use Rattle.am_instance.proofs.Noting.{all_noted}
use Rattle.am_instance.proofs.instance.Instance.drop_all_rows.Goals as goal

pub drop_rows-requires : goal.drop_rows-requires
drop_rows-requires g c = c.requires.backed.opens c.if-not-self.false

-- ---- one that is down has no rows to drop

pub returns-then-not-self-clause-left : goal.returns-then-not-self-clause-left
returns-then-not-self-clause-left g c up = absurd (let clash = sym up ∙ c.if-not-self.true in cc)

-- ---- memory ran out

pub returns-in_err-names-clause-cause : goal.returns-in_err-names-clause-cause
returns-in_err-names-clause-cause g c =
    let p = err_from_is_err_and c.from_residual.result c.from_residual.ensures.1 in
    rw (p.1, p.2) c.if-not-self.false

pub returns-in_err-names-clause-left : goal.returns-in_err-names-clause-left
returns-in_err-names-clause-left g c up clean =
    let p = err_from_is_err_and c.from_residual.result c.from_residual.ensures.1 in
    rw (p.1, p.2) (left_untouched _ _ _ (λ t. c.requires.backed.stores up clean t))

pub returns-in_err-names-clause-idle : goal.returns-in_err-names-clause-idle
returns-in_err-names-clause-idle g c down = refl

-- ---- the rows go

pub returns-clause-cause : goal.returns-clause-cause
returns-clause-cause g c =
    IfErr-weaker c.drop_rows.result _ _ (stops_leaving c.args.self.now c.if-not-self.false) c.drop_rows.ensures.fault

pub returns-clause-left : goal.returns-clause-left
returns-clause-left g c up clean =
    left_none c.args.self.now c.deref.result.now
    (all_noted c.args.self.now _ _ c.deref.ensures.value c.in_ok-names.ensures.names c.list.ensures.order) c.requires.noted
    (shelf_of g.R.Rows c.args.store.now) (shelf_of g.R.Rows c.drop_rows.new.store)
    (c.requires.backed.stores up (c.drop_rows.ensures.clean clean)) _ (c.drop_rows.ensures.left clean)

pub returns-clause-idle : goal.returns-clause-idle
returns-clause-idle g c down = absurd (let clash = sym down ∙ c.if-not-self.false in cc)
