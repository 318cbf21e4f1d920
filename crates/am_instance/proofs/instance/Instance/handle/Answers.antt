use Rattle.std.proofs.Common.{refl, subst}
use Rattle.std.proofs.lemmas.Result.{err_from_is_err_and}
use Rattle.am_cluster.specs.Ticking.{handled}
use Rattle.am_node.specs.Ticks.{muted_for}
use Rattle.am_site.specs.Here.{here_of}
use Rattle.am_site.specs.Locals.{local_of}
use Rattle.am_site.specs.Reacting.{Reacts as SiteReacts, StopsReacting}
use Rattle.am_instance.specs.Instance.{local_in}
use Rattle.am_instance.proofs.Reacting.{reacts_here, stops_here, whose}
use Rattle.am_instance.proofs.Blank.{handled_blank}
use Rattle.am_instance.proofs.Elsewhere.{handled_elsewhere}
use Rattle.am_instance.proofs.Whole.{order_given, still_given, whole_reacted}
use Rattle.am_instance.proofs.instance.Instance.handle.Goals as goal
use Rattle.am_instance.specs.Here.{circumstances}

pub handle-requires : goal.handle-requires
handle-requires c =
    order_given (circumstances c.args.occasion.now) c.args.self.now c.args.timer.now.name.tenant c.here-here.result c.here-here.ensures
    c.requires

pub returns-in_err-handle-clause-fault : goal.returns-in_err-handle-clause-fault
returns-in_err-handle-clause-fault c =
    let x = c.args.self.now in
    let t = c.args.timer.now.name.tenant in
    let key = c.args.timer.now.name.key in
    let muted = c.args.muted.now in
    let given = c.here-here.result in
    let fault = c.in_err-handle.field-0.0 in
    let p = err_from_is_err_and c.from_residual.result c.from_residual.ensures.1 in
    rw (p.1, p.2)
    (stops_here (circumstances c.args.occasion.now) x t given c.here-here.ensures (λ here. handled here (muted_for t muted) key) fault
    (subst (λ s. StopsReacting given.tenant.now (handled (here_of given) (muted_for s muted) key) x.site fault)
    (whose (circumstances c.args.occasion.now) x t given c.here-here.ensures) c.in_err-handle.ensures.fault))

pub returns-clause-reacts : goal.returns-clause-reacts
returns-clause-reacts c =
    let x = c.args.self.now in
    let t = c.args.timer.now.name.tenant in
    let key = c.args.timer.now.name.key in
    let muted = c.args.muted.now in
    let given = c.here-here.result in
    let site = c.handle.new.self in
    let first = c.new-said.result.items in
    let said = c.handle.new.outbox.items in
    reacts_here (circumstances c.args.occasion.now) x t given c.here-here.ensures (λ here. handled here (muted_for t muted) key)
    _ first said c.new-said.ensures.items c.args.outputs.now.items c.put_out.new.outputs.items
    (rw c.speaker.ensures at c.in_ok-put_out.ensures.put)
    (subst (λ s. SiteReacts given.tenant.now (handled (here_of given) (muted_for s muted) key) x.site site first said)
    (whose (circumstances c.args.occasion.now) x t given c.here-here.ensures) c.in_ok-handle.ensures.reacts)

pub returns-clause-whole : goal.returns-clause-whole
returns-clause-whole c =
    let around = circumstances c.args.occasion.now in
    let x = c.args.self.now in
    let t = c.args.timer.now.name.tenant in
    let key = c.args.timer.now.name.key in
    let given = c.here-here.result in
    let muted = muted_for given.tenant.now c.args.muted.now in
    let react = handled (here_of given) muted key in
    whole_reacted around x _ refl refl refl t given c.here-here.ensures react _ _
    (still_given around x _ t given c.here-here.ensures (λ l. (react l).local) c.in_ok-handle.ensures.reacts.local refl
    (handled_blank (here_of given) muted key) c.requires.noted)
    (λ _. handled_elsewhere (here_of given) muted key)
    c.in_ok-handle.ensures.reacts c.in_ok-handle.ensures.order c.requires

pub returns-clause-stored : goal.returns-clause-stored
unfolding local_in local_of
returns-clause-stored c = c.in_ok-handle.ensures.stored
