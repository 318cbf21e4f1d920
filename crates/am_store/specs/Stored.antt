-- What is stored of a tenant: configurations and silences, each with its stamp.
use Rattle.std.specs.Prelude.{◌≡◌, ℕ, Bool, List, [], ◌∷◌, filter, Option, Some, None}
use Rattle.std.specs.List.{filter_map}
use Rattle.std.specs.Ordering.{is_eq}
use Rattle.am_match.specs.Matchers.{MatcherText}
use Rattle.am_item.specs.declared.item.Item.{Item}
use Rattle.am_item.specs.declared.item.Thing.{Thing}
use Rattle.am_item.specs.declared.item.Thing.TheVariants as thing
use Rattle.am_item.specs.declared.silence.Silence.{Silence}
use Rattle.am_item.specs.declared.silence.SilenceDetails.{SilenceDetails}
use Rattle.am_item.specs.declared.stamp.Stamp.{Stamp}
use Rattle.am_item.specs.declared.stamp.Stamped.{Stamped}
use Rattle.am_item.specs.Held.{silence_of}
use Rattle.am_item.specs.Key.{key_cmp}
use Rattle.am_item.specs.declared.key.ThingKey.{ThingKey as Key}
use Rattle.am_item.specs.declared.key.ThingKey.TheVariants.{Configuration as ConfigurationKey, Silence as SilenceKey}
use Rattle.am_item.specs.Newest.{newest}
use Rattle.am_share.specs.Pairs.{things_of}

-- a silence, wherever its matchers lie in memory
pub record SilenceText : Type 0 where
  pub id : List ℕ
  pub starts_at : ℕ
  pub ends_at : ℕ
  pub kept_until : ℕ
  pub created_by : List ℕ
  pub comment : List ℕ
  pub matchers : List MatcherText

-- a configuration, without a text where it was deleted, or a silence
pub data Content : Type 0 where
  ConfigurationText : (text : Option (List ℕ)) → Content
  SilenceWords : (silence : SilenceText) → Content

abbrev pub Stored : Type 0
Stored = Stamped Content

-- the key of what is stored
abbrev pub key_in : Content → Key
key_in (ConfigurationText text) = ConfigurationKey
key_in (SilenceWords silence) = SilenceKey silence.id

abbrev pub has_key : Key → Stored → Bool
has_key key x = is_eq (key_cmp key (key_in x.value))

-- a silence as it is stored
abbrev pub silence_text : Silence → SilenceText
silence_text s = record {
  id = s.id;
  starts_at = s.starts_at;
  ends_at = s.ends_at;
  kept_until = s.kept_until;
  created_by = s.created_by;
  comment = s.comment;
  matchers = s.matchers;
}

-- a silence as it is stored, of its identifier and of what it is beside that
abbrev pub words_of : List ℕ → SilenceDetails → SilenceText
words_of id details = silence_text (silence_of id details)

abbrev pub stamped : Stamp → Content → Stored
stamped stamp content = record { stamp = stamp; value = content }

-- an item as it is stored: alerts and sent entries aren't
abbrev pub stored_thing : Stamp → Thing → Option Stored
stored_thing stamp (thing.Configuration text) = Some (stamped stamp (ConfigurationText text))
stored_thing stamp (thing.Silence silence) = Some (stamped stamp (SilenceWords (silence_text silence)))
stored_thing stamp (thing.Alert alert) = None
stored_thing stamp (thing.SentEntry entry) = None

abbrev pub stored_item : Item → Option Stored
stored_item item = stored_thing item.stamp item.thing

-- the items of a list that are stored, in its order
abbrev pub stored_items : List Item → List Stored
stored_items items = filter_map stored_item items

-- what is held where these come one after the other: of two the one with the greater stamp
abbrev pub latest : Option Stored → List Stored → Option Stored
latest held [] = held
latest held (x ∷ xs) = latest (newest held x) xs

-- those of one key
abbrev pub of_key : Key → List Stored → List Stored
of_key key xs = filter (λ x. has_key key x) xs

-- of what a tenant has under a key, that with the greatest stamp
unfoldable pub stored_at : List ℕ → Key → List (List ℕ × Stored) → Option Stored
stored_at tenant key pairs = latest None (of_key key (things_of tenant pairs))

-- what is stored where things of a tenant are put one after the other: under each of their keys the one with the
-- greatest stamp, of equal stamps the one that was there; all else stays
abbrev pub Puts : List ℕ → List Stored → List (List ℕ × Stored) → List (List ℕ × Stored) → Type 0
Puts tenant xs old new = (key : Key) → stored_at tenant key new ≡ latest (stored_at tenant key old) (of_key key xs)
