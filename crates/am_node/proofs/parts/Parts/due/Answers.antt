use Rattle.std.proofs.Common.{◌∙◌, ap, map, sym}
use Rattle.std.specs.List.{list_any}
use Rattle.std.proofs.lemmas.Result.{err_from_is_err_and}
use Rattle.am_timer.specs.Queue.{timers_of}
use Rattle.am_timer.specs.Timer.{Timer}
use Rattle.am_node.specs.Held.{local_of}
use Rattle.am_node.specs.Ticks.{is_flush, keys_for}
use Rattle.am_node.proofs.Muteds.{stops_planned}
use Rattle.am_node.proofs.Ticks.{flush_among}
use Rattle.am_node.proofs.parts.Parts.due.Goals as goal

pub returns-clause-due : goal.returns-clause-due
unfolding local_of
returns-clause-due c = c.in_ok-due.ensures.due

pub returns-in_err-muted-clause-fault : goal.returns-in_err-muted-clause-fault
unfolding keys_for timers_of local_of
returns-in_err-muted-clause-fault c =
    let p = err_from_is_err_and c.from_residual-in_err-muted.result c.from_residual-in_err-muted.ensures.1 in
    rw (p.1, p.2) (stops_planned _ _ _ _ _ _
    (λ t. sym (flush_among t c.deref.result.now ∙ ap (λ xs. list_any is_flush (keys_for t xs)) c.deref.ensures.value
    ∙ ap (λ ts. list_any is_flush (map (λ (x : Timer). x.name.key) ts)) (c.in_ok-due.ensures.due t)))
    c.in_err-muted.ensures.fault)
