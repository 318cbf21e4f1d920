use Rattle.std.proofs.Common.{◌≡◌, ℕ, ◌∷◌, ◌++◌, ◌∙◌, drop, refl, suc, sym, subst, take}
use Rattle.std.proofs.Math.Seq.{split_at}
use Rattle.std.proofs.lemmas.List.{take_more}
use Rattle.std.proofs.lemmas.Result.{err_from_is_err_and}
use Rattle.am_cluster.specs.Local.{Local}
use Rattle.am_cluster.specs.Reactions.{Reaction, each}
use Rattle.am_cluster.specs.Sending.{send_in}
use Rattle.am_site.specs.Here.{here_of}
use Rattle.am_site.specs.Reacting.{StopsReacting}
use Rattle.am_site.proofs.Reacting.{none_yet, one_more, stops_at}
use Rattle.am_site.proofs.site.Site.send_all.Goals as goal

pub loop-instance-init : goal.loop-instance-init
loop-instance-init c =
    (none_yet c.args.here.now.tenant.now (λ i. send_in c.args.epoch (here_of c.args.here.now) i c.args.body.now) c.args.self.now c.args.outbox.now.items, (refl, refl))

pub loop-instance-preserved : goal.loop-instance-preserved
loop-instance-preserved c =
    let i = c.loop-instance.instance-index in
    let x = c.instance-item.result in (
      rw (take_more c.args.to.now i x c.loop-instance-test.true, ← c.instance-item.is)
          (one_more c.args.here.now.tenant.now (λ i. send_in c.args.epoch (here_of c.args.here.now) i c.args.body.now) (take i c.args.to.now) x
          c.args.self.now c.loop-instance.self c.send_in.new.self c.args.outbox.now.items c.loop-instance.outbox.items c.send_in.new.outbox.items
          c.loop-instance.invariant.0 (rw c.in_ok-body.ensures at c.in_ok-send_in.ensures.reacts)),
      (c.send_in.ensures.node ∙ c.loop-instance.invariant.1.0, c.send_in.ensures.settling ∙ c.loop-instance.invariant.1.1),
    )

pub returns-in_err-send_in-clause-fault : goal.returns-in_err-send_in-clause-fault
returns-in_err-send_in-clause-fault c =
    let i = c.loop-instance.instance-index in
    let x = c.instance-item.result in
    let react : ℕ → Local → Reaction = λ i. send_in c.args.epoch (here_of c.args.here.now) i c.args.body.now in
    let p = err_from_is_err_and c.from_residual-in_err-send_in.result c.from_residual-in_err-send_in.ensures.1 in
    let whole : c.args.to.now ≡ take i c.args.to.now ++ x ∷ drop (suc i) c.args.to.now = rw (← c.instance-item.is) at (split_at c.args.to.now i x c.loop-instance-test.true) in
    rw (p.1, p.2)
    (subst (λ is. StopsReacting c.args.here.now.tenant.now (each react is) c.args.self.now c.in_err-send_in.field-0.0) (sym whole)
    (stops_at c.args.here.now.tenant.now react (take i c.args.to.now) x (drop (suc i) c.args.to.now) c.args.self.now c.loop-instance.self _ _ _
    c.loop-instance.invariant.0 (rw c.in_ok-body.ensures at c.in_err-send_in.ensures.fault)))
