use Rattle.std.proofs.Common.{◌≡◌, ◌++◌, drop, map}
use Rattle.serde_json.specs.Data.{string}
use Rattle.serde_json.specs.View.{items_of}
use Rattle.am_json.specs.Written.{items_tokens, member_tokens, texts_data}
use Rattle.am_payload.specs.Written.{print_of}
use Rattle.am_payload.proofs.alerts.prints_member.Given as goal

abbrev pub invariant-loop-labels : goal.invariant-loop-labels
invariant-loop-labels l =
    l.text ++ items_tokens (items_of (map string (map print_of (map (λ set. set.now) (drop l.labels-index l.sets)))))
    ≡ l.fn.text ++ member_tokens l.name (texts_data (map print_of (map (λ set. set.now) l.sets)))
