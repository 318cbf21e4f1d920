use Rattle.std.proofs.Common.{[], refl}
use Rattle.std.proofs.lemmas.Result.{err_from_is_err_and}
use Rattle.am_instance.specs.Changing.{turning}
use Rattle.am_instance.specs.Here.{circumstances}
use Rattle.am_instance.proofs.Among.{all_put_out}
use Rattle.am_instance.proofs.Learns.{left_in_memory, left_untouched}
use Rattle.am_instance.proofs.Noting.{all_noted}
use Rattle.am_instance.proofs.Turns.{reads_same}
use Rattle.am_instance.proofs.instance.Instance.turn_all.Goals as goal

pub turn_each-requires-clause-names : goal.turn_each-requires-clause-names
turn_each-requires-clause-names g c =
    all_noted c.args.self.now _ _ c.deref.ensures.value c.in_ok-names.ensures.names c.list.ensures.order

pub returns-clause-reacts : goal.returns-clause-reacts
returns-clause-reacts g c =
    all_put_out (circumstances c.args.occasion.now) (turning c.args.before.now.instances) c.args.self.now
    c.turn_each.new.self c.in_ok-told.told.items c.args.outputs.now.items c.append.new.self.items
    c.in_ok-told.ensures.reacts c.in_ok-append.ensures.items

pub returns-in_err-names-clause-cause : goal.returns-in_err-names-clause-cause
returns-in_err-names-clause-cause g c =
    let p = err_from_is_err_and c.from_residual.result c.from_residual.ensures.1 in
    rw (p.1, p.2) tt

pub returns-in_err-append-clause-cause : goal.returns-in_err-append-clause-cause
returns-in_err-append-clause-cause g c =
    let p = err_from_is_err_and c.from_residual-in_err-append.result c.from_residual-in_err-append.ensures.1 in
    rw (p.1, p.2) tt

pub returns-in_err-told-clause-cause : goal.returns-in_err-told-clause-cause
returns-in_err-told-clause-cause g c =
    let p = err_from_is_err_and c.from_residual-in_err-told.result c.from_residual-in_err-told.ensures.1 in
    rw (p.1, p.2) c.in_err-told.ensures.cause

pub returns-in_err-names-clause-stays : goal.returns-in_err-names-clause-stays
returns-in_err-names-clause-stays g c = reads_same c.args.self.now

pub returns-in_err-names-clause-left : goal.returns-in_err-names-clause-left
returns-in_err-names-clause-left g c clean =
    let p = err_from_is_err_and c.from_residual.result c.from_residual.ensures.1 in
    rw (p.1, p.2) (left_untouched _ _ _ (λ t. c.requires.backed.stores c.requires.up clean t))

pub returns-in_err-told-clause-left : goal.returns-in_err-told-clause-left
returns-in_err-told-clause-left g c clean =
    let p = err_from_is_err_and c.from_residual-in_err-told.result c.from_residual-in_err-told.ensures.1 in
    rw (p.1, p.2) (c.in_err-told.ensures.left clean)

pub returns-in_err-append-clause-left : goal.returns-in_err-append-clause-left
returns-in_err-append-clause-left g c clean =
    let p = err_from_is_err_and c.from_residual-in_err-append.result c.from_residual-in_err-append.ensures.1 in
    rw (p.1, p.2) (left_in_memory _ _ _ _ (c.in_ok-told.ensures.left clean))
