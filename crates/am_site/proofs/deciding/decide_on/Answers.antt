use Rattle.std.proofs.Common.{Ok, Err}
use Rattle.std.proofs.lemmas.Result.{err_from_is_err_and}
use Rattle.am_node.specs.Held.{local_of}
use Rattle.am_site.specs.Deciding.{shared_as}
use Rattle.am_site.specs.Locals.{from_rooms}
use Rattle.am_site.proofs.Decided.{decides_here, returned_here, stops_here}
use Rattle.am_site.proofs.deciding.decide_on.Goals as goal

pub returns-clause-decided : goal.returns-clause-decided
returns-clause-decided c = λ d n g.
    let l = from_rooms (local_of c.args.here.now.tenant.now c.args.node.now) d n g in
    decides_here c.args.cache.now c.decide.new.cache c.args.here.now c.args.request.now c.args.list l c.in_ok-decided.decided
    (shared_as c.in_ok-shared.shared) c.in_ok-shared.ensures
    (returned_here c.args.cache.now c.decide.new.cache (Ok c.in_ok-decided.decided) c.args.here.now c.args.request.now c.args.list l
    _ _ _ _ _ c.in_ok-config.ensures c.number-number.ensures.number c.stamps.ensures c.place-place.ensures c.new-words.ensures
    c.in_ok-decided.ensures.refuses)
    c.in_ok-decided.ensures.built

pub returns-in_err-decided-clause-fault : goal.returns-in_err-decided-clause-fault
returns-in_err-decided-clause-fault c =
    let p = err_from_is_err_and c.from_residual-in_err-decided.result c.from_residual-in_err-decided.ensures.1 in
    rw (p.1, p.2) (λ d n g.
    let l = from_rooms (local_of c.args.here.now.tenant.now c.args.node.now) d n g in
    stops_here c.args.cache.now c.decide.new.cache c.args.here.now c.args.request.now c.args.list l c.in_err-decided.field-0.0
    (returned_here c.args.cache.now c.decide.new.cache (Err c.in_err-decided.field-0.0) c.args.here.now c.args.request.now c.args.list l
    _ _ _ _ _ c.in_ok-config.ensures c.number-number.ensures.number c.stamps.ensures c.place-place.ensures c.new-words.ensures
    c.in_err-decided.ensures.refuses))
