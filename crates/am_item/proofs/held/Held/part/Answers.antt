use Rattle.std.proofs.Common.{◌∙◌, arith}
use Rattle.am_item.proofs.Placed.{part_more}
use Rattle.am_item.proofs.held.Held.part.Goals as goal

pub loop-place-preserved : goal.loop-place-preserved
loop-place-preserved c =
    part_more c.args.self.now c.loop-place.items.items c.push.new.self.items c.args.from c.loop-place.place c.in_ok-share.field-0
    (omega (arith, c.loop-place.auto.place)) (omega (arith, c.loop-place-test.true, c.requires.within))
    (λ d. c.in_ok-share.ensures ∙ c.at.ensures d) c.loop-place.invariant c.in_ok-push.ensures.items
