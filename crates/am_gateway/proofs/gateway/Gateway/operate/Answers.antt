use Rattle.std.proofs.Common.{◌∙◌, ap, refl}
use Rattle.am_gateway.specs.Restarting.{vain_since}
use Rattle.am_gateway.proofs.HearingLemmas.{handles, operates, unrefused}
use Rattle.am_gateway.proofs.gateway.Gateway.operate.Goals as goal
use Rattle.am_gateway.proofs.gateway.Gateway.operate.Goals.{in-Ok, in-Err-sorted}

pub returns-clause-operates : goal.returns-clause-operates
returns-clause-operates g c =
    operates g.W.AnyWorld.contents c.match-sorted.result c.args.event.now c.args.self.now _
    (unrefused _ c.step.result c.step.ensures.refused (rw c.in_default.is refl))
    (elim c.match-sorted.branch [ in-Ok w ↦ rw w.result-is refl | in-Err-sorted w ↦ rw w.result-is tt ])
    (record {
      mid = c.sort-sorted.new.self;
      tells = record {
        outs = _;
        handles = handles _ _ _ _ _ _ c.step.ensures.step c.pass_all.ensures c.sort-sorted.ensures.forgets;
        sorts = elim c.match-sorted.branch [ in-Ok w ↦ rw w.result-is (record { queues = w.in-Ok.ensures.sorted.queues; keeps = w.in-Ok.ensures.sorted.keeps }) | in-Err-sorted w ↦ rw w.result-is tt ];
        loses = elim c.match-sorted.branch [ in-Ok w ↦ rw w.result-is tt | in-Err-sorted w ↦ rw w.result-is (record { queues = w.in-Err-sorted.ensures.err.queues; keeps = w.in-Err-sorted.ensures.err.keeps }) ];
        vain = c.sort-sorted.ensures.vain;
      };
      vain = c.forget_up.ensures
          ∙ ap (λ v. vain_since v.items (g.W.AnyWorld.contents c.sort-sorted.new.self.world.now).state) c.sort-sorted.ensures.vain;
      rest = refl;
    })
