use Rattle.std.proofs.Common.{◌≡◌, ◌++◌, ◌∷◌, [], ap, map, sym, ◌∙◌}
use Rattle.std.proofs.lemmas.List.{map_push}
use Rattle.am_item.specs.declared.silence.SilenceDetails.{SilenceDetails}
use Rattle.am_item.specs.declared.stamp.Stamped.{Stamped}
use Rattle.am_silence.specs.Having.{has_borrowed}
use Rattle.am_silence.specs.Held.{SilenceValue, held_silence, held_under}
use Rattle.am_silence.proofs.HeldLemmas.{one_failed, one_passed}
use Rattle.am_silence.proofs.held.having_each.Goals.{then-has_matchers+in_ok-push, else-has_matchers}
use Rattle.am_silence.proofs.held.having_each.Goals as goal

pub loop-kept-preserved : goal.loop-kept-preserved
loop-kept-preserved c =
    let kept = c.kept-item.result in
    let within = rw c.entries-kept-items.ensures.entries at c.loop-kept-test.true in
    let is = rw c.entries-kept-items.ensures.entries at c.kept-item.is in
    let passes = (λ (s : SilenceValue). has_borrowed s.details.matchers c.args.wanted.now) in
    let test : c.has_matchers.result ≡ passes (held_under kept.0 kept.1) =
    c.has_matchers.ensures ∙ ap (λ matchers. has_borrowed matchers c.args.wanted.now) c.as_slice.ensures
    ∙ ap (λ (held : Stamped SilenceDetails). has_borrowed held.value.matchers c.args.wanted.now) c.value.ensures in
    elim c.if-has_matchers.branch [
      | then-has_matchers+in_ok-push w ↦
          rw (w.found-is, w.in_ok-push.ensures.items)
          (map_push held_silence c.loop-kept.found.items w.borrowed.result
          ∙ ap (λ s. map held_silence c.loop-kept.found.items ++ s ∷ []) w.borrowed.ensures
          ∙ ap (λ ss. ss ++ held_under kept.0 kept.1 ∷ []) c.loop-kept.invariant
          ∙ sym (one_passed passes c.args.silences.now c.loop-kept.kept-index kept within is (sym test ∙ w.if-has_matchers.true)))
      | else-has_matchers w ↦
          rw w.found-is
          (c.loop-kept.invariant
          ∙ sym (one_failed passes c.args.silences.now c.loop-kept.kept-index kept within is (sym test ∙ w.if-has_matchers.false)))
    ]
