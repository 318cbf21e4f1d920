use Rattle.std.proofs.Common.{refl}
use Rattle.std.proofs.lemmas.Result.{err_from_is_err_and}
use Rattle.am_instance.specs.Changing.{started}
use Rattle.am_instance.specs.Here.{circumstances}
use Rattle.am_instance.proofs.Among.{all_put_out}
use Rattle.am_instance.proofs.Noting.{all_noted}
use Rattle.am_instance.proofs.Turns.{reads_same}
use Rattle.am_instance.proofs.instance.Instance.follow_start.Goals as goal

pub follow_each-requires-clause-names : goal.follow_each-requires-clause-names
follow_each-requires-clause-names c =
    all_noted c.args.self.now _ _ c.deref.ensures.value c.in_ok-names.ensures.names c.list.ensures.order

pub returns-clause-reacts : goal.returns-clause-reacts
returns-clause-reacts c =
    all_put_out (circumstances c.args.occasion.now) (λ t. started c.args.start) c.args.self.now
    c.follow_each.new.self c.in_ok-told.told.items c.args.outputs.now.items c.append.new.self.items
    c.in_ok-told.ensures.reacts c.in_ok-append.ensures.items

pub returns-in_err-told-clause-cause : goal.returns-in_err-told-clause-cause
returns-in_err-told-clause-cause c =
    let p = err_from_is_err_and c.from_residual-in_err-told.result c.from_residual-in_err-told.ensures.1 in
    rw (p.1, p.2) c.in_err-told.ensures.cause

pub returns-in_err-names-clause-stays : goal.returns-in_err-names-clause-stays
returns-in_err-names-clause-stays c = reads_same c.args.self.now
