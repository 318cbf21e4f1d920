use Rattle.std.proofs.Common.{◌≡◌, ◌++◌, drop, map}
use Rattle.serde_json.specs.Data.{string}
use Rattle.serde_json.specs.View.{items_of}
use Rattle.am_json.specs.Written.{items_tokens, member_tokens, texts_data}
use Rattle.am_words.specs.Ids.{id_text}
use Rattle.am_payload.proofs.alerts.ids_member.Given as goal

abbrev pub invariant-loop-id : goal.invariant-loop-id
invariant-loop-id l =
    l.text ++ items_tokens (items_of (map string (map id_text (drop l.id-index l.ids))))
    ≡ l.fn.text ++ member_tokens l.name (texts_data (map id_text l.ids))
