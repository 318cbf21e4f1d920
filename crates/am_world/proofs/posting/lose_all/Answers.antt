use Rattle.std.proofs.Common.{refl, take}
use Rattle.std.proofs.lemmas.List.{take_all, take_more}
use Rattle.am_world.proofs.PostingLemmas.{lost_more}
use Rattle.am_world.proofs.posting.lose_all.Goals as goal

pub loop-output-init : goal.loop-output-init
loop-output-init c = record { lost = λ name. refl; filed = λ filed. filed }

pub loop-output-preserved : goal.loop-output-preserved
loop-output-preserved c =
    let i = c.loop-output.output-index in
    let x = c.output-item.result in
    rw (take_more c.args.told.now i x c.loop-output-test.true, ← c.output-item.is)
    (record {
      lost =
          lost_more (take i c.args.told.now) x c.args.messages.now c.loop-output.messages c.lose_one.new.messages
          c.loop-output.invariant.lost c.lose_one.ensures.lost;
      filed = λ filed. c.lose_one.ensures.filed (c.loop-output.invariant.filed filed);
    })

pub returns-clause-lost : goal.returns-clause-lost
returns-clause-lost c =
    rw (take_all c.loop-output.output-index c.args.told.now c.loop-output-test.false) at c.loop-output.invariant.lost
