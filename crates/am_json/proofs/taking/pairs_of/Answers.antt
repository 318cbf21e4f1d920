use Rattle.std.proofs.Common.{◌≡◌, ◌∷◌, Ok, refl, sym, ap, ◌∙◌}
use Rattle.serde_json.specs.View.{members_view, view}
use Rattle.am_text.specs.Outcome.{◌>>=◌}
use Rattle.am_text.proofs.OutcomeLemmas.{with_front, with_front-cons}
use Rattle.am_labels.specs.declared.Label.{Label}
use Rattle.am_json.specs.Reading.{pairs_of, text_in}
use Rattle.am_json.proofs.taking.pairs_of.Goals as goal

pub loop-name-preserved : goal.loop-name-preserved
loop-name-preserved c =
    let more = c.next.new.self in
    let own : Label = record { name = c.from_string-name.result; value = c.in_ok-value.value } in
    let text : text_in (view c.in-Some.value) ≡ Ok c.in_ok-value.value = c.in_ok-value.ensures in
    let step : pairs_of (members_view c.loop-name.name-iterator) ≡ (pairs_of (members_view more) >>= λ rest. Ok (own ∷ rest)) =
    ap (λ es. pairs_of (members_view es)) c.in-Some.ensures.steps ∙ rw (text, c.from_string-name.ensures) refl in
    ap (λ items. with_front items (pairs_of (members_view more))) c.in_ok-push.ensures.items
    ∙ sym (with_front-cons c.loop-name.pairs.items own (pairs_of (members_view more)))
    ∙ ap (with_front c.loop-name.pairs.items) (sym step) ∙ c.loop-name.invariant
