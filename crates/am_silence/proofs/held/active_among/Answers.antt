use Rattle.std.proofs.Common.{◌≡◌, ◌++◌, ◌∷◌, [], ap, map, sym, ◌∙◌}
use Rattle.std.proofs.lemmas.List.{map_push}
use Rattle.am_item.specs.declared.silence.SilenceDetails.{SilenceDetails}
use Rattle.am_item.specs.declared.stamp.Stamped.{Stamped}
use Rattle.am_silence.specs.Silences.{is_active}
use Rattle.am_silence.specs.Held.{SilenceValue, held_silence, held_under}
use Rattle.am_silence.proofs.HeldLemmas.{one_failed, one_passed}
use Rattle.am_silence.proofs.held.active_among.Goals.{then-is_active+in_ok-push, else-is_active}
use Rattle.am_silence.proofs.held.active_among.Goals as goal

pub loop-kept-preserved : goal.loop-kept-preserved
loop-kept-preserved c =
    let kept = c.kept-item.result in
    let within = rw c.entries-kept-items.ensures.entries at c.loop-kept-test.true in
    let is = rw c.entries-kept-items.ensures.entries at c.kept-item.is in
    let passes = (λ (s : SilenceValue). is_active c.args.moment s.details.starts_at s.details.ends_at) in
    let test : c.is_active.result ≡ passes (held_under kept.0 kept.1) =
    c.is_active.ensures ∙ ap (λ (held : Stamped SilenceDetails). is_active c.args.moment held.value.starts_at held.value.ends_at) c.value.ensures in
    elim c.if-is_active.branch [
      | then-is_active+in_ok-push w ↦
          rw (w.active-is, w.in_ok-push.ensures.items)
          (map_push held_silence c.loop-kept.active.items w.borrowed.result
          ∙ ap (λ s. map held_silence c.loop-kept.active.items ++ s ∷ []) w.borrowed.ensures
          ∙ ap (λ ss. ss ++ held_under kept.0 kept.1 ∷ []) c.loop-kept.invariant
          ∙ sym (one_passed passes c.args.silences.now c.loop-kept.kept-index kept within is (sym test ∙ w.if-is_active.true)))
      | else-is_active w ↦
          rw w.active-is
          (c.loop-kept.invariant
          ∙ sym (one_failed passes c.args.silences.now c.loop-kept.kept-index kept within is (sym test ∙ w.if-is_active.false)))
    ]
