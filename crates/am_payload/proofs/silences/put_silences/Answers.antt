use Rattle.std.proofs.Common.{◌∙◌, ◌++◌, ◌∷◌, ◌+◌, ℕ, List, ap, drop, map, sym}
use Rattle.std.proofs.lemmas.List.{append_assoc, drop_more}
use Rattle.json.specs.Token.{Token}
use Rattle.serde_json.specs.View.{items_of}
use Rattle.am_json.specs.Written.{data_tokens, items_tokens}
use Rattle.am_silence.specs.Held.{held_silence}
use Rattle.am_silence.specs.declared.held.HeldSilence.{HeldSilence}
use Rattle.am_payload.specs.Silences.{silence_data}
use Rattle.am_payload.proofs.silences.put_silences.Goals as goal

-- the tokens of those that are still to be written
abbrev rest_tokens : ℕ → List HeldSilence → List Token
rest_tokens moment silences = items_tokens (items_of (map (silence_data moment) (map held_silence silences)))

pub loop-silence-preserved : goal.loop-silence-preserved
loop-silence-preserved c =
    let rest = drop (c.loop-silence.silence-index + 1) c.args.silences.now in
    let next = drop_more c.args.silences.now c.loop-silence.silence-index c.silence-item.result c.loop-silence-test.true
    ∙ ap (λ silence. silence ∷ rest) (sym c.silence-item.is) in
    ap (λ tokens. tokens ++ rest_tokens c.args.moment rest) c.in_ok-put_silence.ensures
    ∙ append_assoc c.loop-silence.text (data_tokens (silence_data c.args.moment (held_silence c.silence-item.result))) (rest_tokens c.args.moment rest)
    ∙ ap (λ silences. c.loop-silence.text ++ rest_tokens c.args.moment silences) (sym next)
    ∙ c.loop-silence.invariant
