-- The items within a message, whichever form they have.
use Rattle.std.specs.Prelude.{List}
use Rattle.am_item.specs.declared.item.Item.{Item}
use Rattle.am_wire.specs.declared.items.Form.{Form}
use Rattle.am_wire.specs.declared.items.Form.TheVariants as form

-- the items, in their order
abbrev pub items_in : Form → List Item
items_in (form.Listed list) = list.value.items
items_in (form.Held held) = held
items_in (form.Part part) = part
