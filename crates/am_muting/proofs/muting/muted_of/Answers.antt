use Rattle.std.proofs.Common.{sym, ◌∙◌}
use Rattle.am_muting.proofs.Chosen.{none_muted, one_muted}
use Rattle.am_muting.proofs.muting.muted_of.Goals as goal
use Rattle.am_muting.proofs.muting.muted_of.Goals.{then-is_muted+in_ok-copy+in_ok-push, else-is_muted}

pub loop-place-preserved : goal.loop-place-preserved
loop-place-preserved c = elim c.if-is_muted.branch [
  | then-is_muted+in_ok-copy+in_ok-push w ↦
      rw (w.muted-is, w.in_ok-push.ensures.items, w.in_ok-copy.ensures)
      (one_muted c.args.mutes.now c.args.alerts.now c.loop-place.place c.loop-place.muted.items _ c.requires c.loop-place-test.true c.loop-place.invariant
      (sym c.is_muted.ensures ∙ w.if-is_muted.true) c.index-alerts-place.result c.index-alerts-place.is)
  | else-is_muted w ↦
      rw w.muted-is
      (none_muted c.args.mutes.now c.args.alerts.now c.loop-place.place c.loop-place.muted.items _ c.requires c.loop-place-test.true c.loop-place.invariant
      (sym c.is_muted.ensures ∙ w.if-is_muted.false))
]
