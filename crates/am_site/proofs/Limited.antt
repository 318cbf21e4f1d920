-- How many bytes alerts take.
use Rattle.std.proofs.Common.{◌≡◌, List, sym}
use Rattle.std.specs.List.{sum_by}
use Rattle.am_cluster.specs.Operating.{alert_bytes_in}
use Rattle.am_item.specs.Kinds.{alerts_of}
use Rattle.am_item.specs.Lengths.{spelled_length}
use Rattle.am_item.specs.declared.item.Item.{Item}
use Rattle.am_length.specs.Capped.{capped}
use Rattle.am_wire.proofs.Counted.{item_spelled}

-- as many as they know of themselves
pub bytes_known : (items : List Item) → capped (sum_by spelled_length (alerts_of items)) ≡ alert_bytes_in items
unfolding alert_bytes_in
bytes_known items = sym (λ d. capped (sum_by (λ (item : Item). item_spelled item d) (alerts_of items)))
