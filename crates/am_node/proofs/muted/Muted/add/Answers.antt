use Rattle.std.proofs.Common.{◌∙◌, sym}
use Rattle.std.proofs.lemmas.Result.{err_from_is_err_and}
use Rattle.am_replica.specs.Holds.{holds_of}
use Rattle.am_node.proofs.Muteds.{needed_flush, put_right, put_there, stops_own}
use Rattle.am_node.proofs.muted.Muted.add.Goals as goal

pub returns-in_ok-put-clause-right : goal.returns-in_ok-put-clause-right
returns-in_ok-put-clause-right c =
    put_right c.args.moment (λ t. (holds_of t c.args.replica.now).held) c.args.self.now c.put.new.self c.args.timer.now.name.tenant c.in_ok-sets.sets
    c.requires.right c.in_ok-put.ensures c.in_ok-sets.ensures.muted

pub returns-in_ok-put-clause-found : goal.returns-in_ok-put-clause-found
returns-in_ok-put-clause-found c = λ flush.
    put_there c.args.self.now c.put.new.self c.args.timer.now.name.tenant c.in_ok-sets.sets c.in_ok-put.ensures

pub returns-in_err-sets-clause-fault : goal.returns-in_err-sets-clause-fault
returns-in_err-sets-clause-fault c =
    let p = err_from_is_err_and c.from_residual.result c.from_residual.ensures.1 in
    rw (p.1, p.2) (stops_own _ c.args.moment c.args.timer.now (λ t. (holds_of t c.args.replica.now).held) _ (needed_flush _ _ (sym c.is_needed.ensures ∙ c.if-is_needed.true)) c.in_err-sets.ensures.fault)
