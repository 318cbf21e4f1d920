use Rattle.std.proofs.Common.{◌≡◌, ◌++◌, ◌∷◌, [], ◌∙◌, ap, map, refl, sym, take}
use Rattle.std.specs.Option.{option_map}
use Rattle.std.proofs.lemmas.List.{append-nil, map-append}
use Rattle.am_alert.specs.HeldAlert.{held_alert}
use Rattle.am_group.specs.Deeds.{deed}
use Rattle.am_group.specs.Notices.{deed_for, deeds_from, entry_at, listed}
use Rattle.am_group.proofs.Telling.{deeds_next}
use Rattle.am_group.proofs.notice.flush.Goals as goal
use Rattle.am_group.proofs.notice.flush.Goals.{in-Some+in_ok-push, in_default}

pub loop-place-init : goal.loop-place-init
unfolding deeds_from
loop-place-init c = rw c.new-acts.ensures.items refl

pub loop-place-preserved : goal.loop-place-preserved
loop-place-preserved c =
    let name = c.args.receiver.now.name in
    let key = c.args.key.now in
    let ws = c.as_slice-webhook-items.result.now in
    let i = c.loop-place.place in
    let w = c.webhook-item.result in
    let sent = c.args.sent.now in
    let alerts = map held_alert c.args.alerts.now in
    let repeat = c.args.repeat_interval in
    let moment = c.args.moment in
    let found = c.in_ok-act.field-0 in
    let does : option_map deed found ≡ deed_for i w (entry_at name key i sent) alerts repeat moment =
    c.in_ok-act.ensures
    ∙ ap (λ last. deed_for i w last (map held_alert c.in_ok-parted.parted.all.items) repeat moment) c.in_ok-last.ensures
    ∙ ap (λ all. deed_for i w (entry_at name key i sent) all repeat moment) c.in_ok-parted.ensures.all in
    let step = deeds_next name key ws i w sent alerts repeat moment (option_map deed found) c.loop-place-test.true c.webhook-item.is does in
    let before = deeds_from 0 name key (take i ws) sent alerts repeat moment in
    elim c.match-branch-4.branch [
      | in-Some+in_ok-push x ↦
          ap (λ v. map deed v.items) x.acts-is ∙ ap (map deed) x.in_ok-push.ensures.items ∙ map-append deed c.loop-place.acts.items (x.in-Some.act ∷ [])
          ∙ ap (λ ds. ds ++ deed x.in-Some.act ∷ []) c.loop-place.invariant
          ∙ ap (λ o. before ++ listed (option_map deed o)) (sym x.in-Some.is) ∙ step
      | in_default x ↦
          ap (λ v. map deed v.items) x.acts-is ∙ c.loop-place.invariant ∙ sym (append-nil before)
          ∙ ap (λ o. before ++ listed (option_map deed o)) (sym x.in_default.is) ∙ step
    ]
