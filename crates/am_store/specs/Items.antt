-- What a database has of all tenants, as items.
use Rattle.std.specs.Prelude.{ℕ, Bool, true, false, List, [], ◌∷◌, map, if◌then◌else◌}
use Rattle.sqlite.specs.Effect.{Database}
use Rattle.sqlite.specs.Table.{Table}
use Rattle.am_item.specs.declared.item.Item.{Item}
use Rattle.am_item.specs.declared.item.Thing.{Thing}
use Rattle.am_item.specs.declared.item.Thing.TheVariants as thing
use Rattle.am_item.specs.declared.silence.Silence.{Silence}
use Rattle.am_store.specs.Rows.{pairs_in}
use Rattle.am_store.specs.Stored.{ConfigurationText, Content, SilenceText, SilenceWords, Stored}

abbrev pub silence_of : SilenceText → Silence
silence_of s = record {
  id = s.id;
  starts_at = s.starts_at;
  ends_at = s.ends_at;
  kept_until = s.kept_until;
  created_by = s.created_by;
  comment = s.comment;
  matchers = s.matchers;
}

abbrev pub thing_of : Content → Thing
thing_of (ConfigurationText text) = thing.Configuration text
thing_of (SilenceWords silence) = thing.Silence (silence_of silence)

-- what is stored, as an item
abbrev pub item_of : Stored → Item
item_of x = record { stamp = x.stamp; thing = thing_of x.value }

abbrev pub with_item : List ℕ × Stored → List ℕ × Item
with_item pair = (pair.0, item_of pair.1)

abbrev pub is_empty : List Table → Bool
is_empty [] = true
is_empty (table ∷ tables) = false

-- the items of all tenants; a database without tables has none
unfoldable pub kept_in : Database → List (List ℕ × Item)
kept_in db = if is_empty db.schema.tables then [] else map with_item (pairs_in db.trees)
