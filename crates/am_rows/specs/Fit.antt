-- Items that may be stored.
use Rattle.std.specs.Prelude.{◌≤◌, ⊤}
use Rattle.am_match.specs.Spelling.{IsSpellable}
use Rattle.am_item.specs.Counts.{greatest_count}
use Rattle.am_item.specs.declared.item.Item.{Item}
use Rattle.am_item.specs.declared.item.Thing.{Thing}
use Rattle.am_item.specs.declared.item.Thing.TheVariants as thing
use Rattle.am_item.specs.declared.stamp.Stamp.{Stamp}

-- what a stamp's type leaves open: an instance from 1 to 8, a count up to the greatest
pub record IsNumbered (s : Stamp) : Type 0 where
  pub first : 1 ≤ s.instance
  pub last : s.instance ≤ 8
  pub count : s.count ≤ greatest_count

-- an item that may be stored, as far as its type leaves that open: the matchers of a silence can be written as bytes
abbrev pub IsFitThing : Thing → Type 0
IsFitThing (thing.Configuration text) = ⊤
IsFitThing (thing.Silence silence) = IsSpellable silence.matchers
IsFitThing (thing.Alert alert) = ⊤
IsFitThing (thing.SentEntry entry) = ⊤

pub record IsFit (item : Item) : Type 0 where
  pub stamp : IsNumbered item.stamp
  pub thing : IsFitThing item.thing
