use Rattle.std.proofs.Common.{◌≡◌, ◌++◌, drop, map}
use Rattle.serde_json.specs.View.{items_of}
use Rattle.am_json.specs.Written.{data_tokens, items_tokens}
use Rattle.am_payload.specs.Silences.{matcher_data, matchers_data}
use Rattle.am_payload.proofs.silences.put_matchers.Given as goal

abbrev pub invariant-loop-matcher : goal.invariant-loop-matcher
invariant-loop-matcher l =
    l.text ++ items_tokens (items_of (map matcher_data (drop l.matcher-index l.matchers)))
    ≡ l.fn.text ++ data_tokens (matchers_data l.matchers)
