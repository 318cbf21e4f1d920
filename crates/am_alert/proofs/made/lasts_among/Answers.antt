use Rattle.std.proofs.Common.{◌∷◌, Bor, List, ap, not, refl, ◌∙◌, reverse}
use Rattle.am_labels.specs.declared.Label.{Label}
use Rattle.am_alert.proofs.LastOfEach.{regrouped, key_more, last_more}
use Rattle.am_alert.proofs.made.lasts_among.Goals as goal

pub loop-alert-preserved : goal.loop-alert-preserved
loop-alert-preserved c =
    let later = c.loop-alert.invariant.0 in
    let alert = c.in-Some.alert.now in
    let own : Bor (List Label) = record { ref_ptr = c.in-Some.alert.ref_ptr; now = alert.labels } in (
      alert ∷ later,
      regrouped c.args.posted.now c.loop-alert.before.now c.in-Some.earlier.now later alert c.loop-alert.invariant.1 c.in-Some.ensures.cases.0,
      λ key. key_more alert.labels key.now _ _ alert later refl (c.loop-alert.invariant.2 key) (c.in_ok-insert.ensures.updates.0 key),
      ap reverse c.in_ok-push.ensures.items
          ∙ last_more c.loop-alert.lasts.items later alert _ c.loop-alert.invariant.3 (c.in_ok-insert.ensures.added ∙ ap not (c.loop-alert.invariant.2 own)),
    )
