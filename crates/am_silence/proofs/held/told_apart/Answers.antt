use Rattle.std.proofs.Common.{refl, sym}
use Rattle.am_silence.proofs.HavingLemmas.{stand_past, stand_put}
use Rattle.am_silence.proofs.held.told_apart.Goals.{then-len-gt-MOST_MATCHERS+in_ok-push, else-len-gt-MOST_MATCHERS+else-not-is_among}
use Rattle.am_silence.proofs.held.told_apart.Goals as goal

pub loop-matcher-preserved : goal.loop-matcher-preserved
loop-matcher-preserved c =
    let apart = c.loop-matcher.apart.items in
    elim c.if-len-gt-MOST_MATCHERS.branch [
      | then-len-gt-MOST_MATCHERS+in_ok-push w ↦
          rw (w.apart-is, w.in_ok-push.ensures.items)
          (stand_put apart c.loop-matcher.matcher-index c.args.wanted.now c.matcher-item.result c.loop-matcher-test.true c.matcher-item.is c.loop-matcher.invariant _ refl)
      | else-len-gt-MOST_MATCHERS+else-not-is_among w ↦
          rw w.apart-is
          (stand_past apart c.loop-matcher.matcher-index c.args.wanted.now c.matcher-item.result c.loop-matcher-test.true c.matcher-item.is c.loop-matcher.invariant
          (rw w.deref.ensures.value at (sym w.if-not-is_among.ensures)))
    ]
