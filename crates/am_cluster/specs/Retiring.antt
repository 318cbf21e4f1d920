-- What an instance has of a tenant once what is retired at a moment is gone.
use Rattle.std.specs.Prelude.{ℕ, List, filter, not}
use Rattle.am_book.specs.Retired.{is_key_retired}
use Rattle.am_item.specs.Key.{AlertKey}
use Rattle.am_item.specs.declared.item.Item.{Item}
use Rattle.am_labels.specs.declared.Label.{Label}
use Rattle.am_members.specs.Grouped.{living}
use Rattle.am_node.specs.Retiring.{items_left}
use Rattle.am_cluster.specs.Local.{Local}
use Rattle.am_cluster.specs.Plans.{grouped_of}

-- of the alerts that are held those whose key isn't retired, each with the moment since which it is held
abbrev pub sinces_left : ℕ → List Item → List (List Label × ℕ) → List (List Label × ℕ)
sinces_left moment held sinces = filter (λ a. not (is_key_retired moment held (AlertKey a.0))) sinces

-- without the last flushes of groups that have no members
abbrev pub with_living : Local → Local
with_living local = record local { flushes = living (grouped_of local) }

-- each key whose best item is retired goes, and then the last flushes of groups that have no members any more
unfoldable pub retired : ℕ → Local → Local
retired moment local = with_living (record local {
  held = items_left moment local.held;
  sinces = sinces_left moment local.held local.sinces;
})
