use Rattle.std.proofs.Common.{◌≡◌, ◌∷◌, Bor, List, false, sym, ◌∙◌}
use Rattle.am_labels.specs.declared.Label.{Label}
use Rattle.am_api.specs.Fresh.{has_alert}
use Rattle.am_api.proofs.Counting.{count_more, known_more, regrouped}
use Rattle.am_api.proofs.posting.count_new.Goals as goal

pub loop-alert-preserved-in_ok-insert : goal.loop-alert-preserved-in_ok-insert
loop-alert-preserved-in_ok-insert c =
    let later = c.loop-alert.invariant.0 in
    let alert = c.in-Some.alert.now in
    let own : Bor (List Label) = record { ref_ptr = c.in-Some.alert.ref_ptr; now = alert.labels } in
    let fresh : has_alert c.args.held.now alert.labels ≡ false = sym c.has_alert.ensures ∙ c.if-not-has_alert.true in (
      alert ∷ later,
      regrouped c.args.posted.now c.loop-alert.before.now c.in-Some.earlier.now later alert c.loop-alert.invariant.1 c.in-Some.ensures.cases.0,
      λ key. known_more c.args.held.now later alert key.now _ _ fresh (c.loop-alert.invariant.2 key) (c.in_ok-insert.ensures.updates.0 key),
      count_more c.args.held.now later alert _ _ _ _ fresh c.loop-alert.invariant.3 (c.loop-alert.invariant.2 own) c.in_ok-insert.ensures.added c.in_ok-insert.ensures.len,
    )
