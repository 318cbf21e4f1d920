use Rattle.std.proofs.Common.{◌≡◌, ◌∷◌, ◌++◌, ◌∙◌, drop, refl, suc, sym, subst, take}
use Rattle.std.proofs.Math.Seq.{split_at}
use Rattle.std.proofs.lemmas.List.{take_more}
use Rattle.std.proofs.lemmas.Result.{err_from_is_err_and}
use Rattle.am_cluster.specs.Reactions.{each}
use Rattle.am_cluster.specs.Transfers.{begin_push}
use Rattle.am_site.specs.Here.{here_of}
use Rattle.am_site.specs.Reacting.{StopsReacting}
use Rattle.am_site.proofs.Reacting.{none_yet, one_more, stops_at}
use Rattle.am_site.proofs.site.Site.push_all.Goals as goal

pub loop-to-init : goal.loop-to-init
loop-to-init c = (none_yet c.args.here.now.tenant.now (begin_push (here_of c.args.here.now)) c.args.self.now c.args.outbox.now.items, refl)

pub loop-to-preserved : goal.loop-to-preserved
loop-to-preserved c =
    let i = c.loop-to.to-index in
    let x = c.to-item.result in (
      rw (take_more c.args.receivers.now i x c.loop-to-test.true, ← c.to-item.is)
          (one_more c.args.here.now.tenant.now (begin_push (here_of c.args.here.now)) (take i c.args.receivers.now) x
          c.args.self.now c.loop-to.self c.begin_push.new.self c.args.outbox.now.items c.loop-to.outbox.items c.begin_push.new.outbox.items
          c.loop-to.invariant.0 c.in_ok-begin_push.ensures.reacts),
      c.begin_push.ensures.node ∙ c.loop-to.invariant.1,
    )

pub returns-in_err-begin_push-clause-fault : goal.returns-in_err-begin_push-clause-fault
returns-in_err-begin_push-clause-fault c =
    let i = c.loop-to.to-index in
    let x = c.to-item.result in
    let react = begin_push (here_of c.args.here.now) in
    let p = err_from_is_err_and c.from_residual.result c.from_residual.ensures.1 in
    let whole : c.args.receivers.now ≡ take i c.args.receivers.now ++ x ∷ drop (suc i) c.args.receivers.now = rw (← c.to-item.is) at (split_at c.args.receivers.now i x c.loop-to-test.true) in
    rw (p.1, p.2)
    (subst (λ xs. StopsReacting c.args.here.now.tenant.now (each react xs) c.args.self.now c.in_err-begin_push.field-0.0) (sym whole)
    (stops_at c.args.here.now.tenant.now react (take i c.args.receivers.now) x (drop (suc i) c.args.receivers.now) c.args.self.now c.loop-to.self _ _ _
    c.loop-to.invariant.0 c.in_err-begin_push.ensures.fault))
