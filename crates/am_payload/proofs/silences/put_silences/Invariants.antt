use Rattle.std.proofs.Common.{◌≡◌, ◌++◌, drop, map}
use Rattle.serde_json.specs.View.{items_of}
use Rattle.am_json.specs.Written.{data_tokens, items_tokens}
use Rattle.am_silence.specs.Held.{held_silence}
use Rattle.am_payload.specs.Silences.{silence_data, silences_data}
use Rattle.am_payload.proofs.silences.put_silences.Given as goal

abbrev pub invariant-loop-silence : goal.invariant-loop-silence
invariant-loop-silence l =
    l.text ++ items_tokens (items_of (map (silence_data l.moment) (map held_silence (drop l.silence-index l.silences))))
    ≡ l.fn.text ++ data_tokens (silences_data l.moment (map held_silence l.silences))
