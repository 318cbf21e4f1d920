-- What becomes of items that an instance accepts or makes.
use Rattle.std.specs.Prelude.{ℕ, ◌+◌, List, length, Option, unwrap_or}
use Rattle.am_item.specs.Best.{all_joined}
use Rattle.am_item.specs.declared.item.Item.{Item}
use Rattle.am_muting.specs.Muting.{alert_sets}
use Rattle.am_node.specs.Notices.{all_came}
use Rattle.am_cluster.specs.Local.{Local}

-- items are accepted at a moment: the best are held, and each alert since the least moment at which an item of it came
unfoldable pub accepted : (moment : ℕ) → List Item → Local → Local
accepted moment items local = record local {
  held = all_joined local.held items;
  sinces = all_came moment (alert_sets items) local.sinces;
}

-- items that the instance made are counted, and where words were drawn for them, the place of the next one is kept
abbrev pub counted : List Item → (drawn : Option ℕ) → Local → Local
counted items drawn local = record local {
  ledger = record (local.ledger) {
    stamps = local.ledger.stamps + length items;
    drawn = unwrap_or drawn local.ledger.drawn;
  };
}
