-- How many items a list has.
use Rattle.std.proofs.Common.{◌≡◌, ℕ, List, length, Ok, ap, ◌∙◌}
use Rattle.serde_json.proofs.Views.{items_len-items_view}
use Rattle.serde_json.specs.Data.{array}
use Rattle.serde_json.specs.Events.{items_len}
use Rattle.serde_json.specs.View.{items_view}
use Rattle.serde_json.specs.declared.value.Value.{Value}
use Rattle.am_text.specs.Outcome.{◌>>=◌}
use Rattle.am_judge.specs.declared.facts.Facts.{Facts}
use Rattle.am_judge.specs.declared.kind.Kind.{Kind}
use Rattle.am_judge.specs.Kinds.{item_of}
use Rattle.am_judge.specs.Search.{checked, checked_items, here}

pub counted : (values : List Value) → items_len (items_view values) ≡ length values
counted values = items_len-items_view values

-- a list that by itself passes is checked item by item
pub checked_array : (facts : Facts) (place : List ℕ) (k : Kind) (values : List Value) →
    here facts place k (array (items_view values)) ≡ Ok tt →
    checked facts place k (array (items_view values))
    ≡ checked_items facts place (item_of k (length values)) 0 (items_view values)
checked_array facts place k values own =
    ap (λ r. r >>= λ _. checked_items facts place (item_of k (items_len (items_view values))) 0 (items_view values)) own
    ∙ ap (λ n. checked_items facts place (item_of k n) 0 (items_view values)) (counted values)
