-- The configuration that is in use for a tenant, by what is held of it.
use Rattle.std.specs.Prelude.{◌≡◌, ℕ, List, Option, Some, None, IfSome, Result, Ok, Err}
use Rattle.std.specs.BTreeMap.{BTreeMap, get}
use Rattle.std.specs.Cmp.Lexicographic.{slice_cmp}
use Rattle.std.specs.Ordering.{nat_cmp}
use Rattle.am_config.specs.Configuration.{Configuration}
use Rattle.am_config.specs.Default.{default_configuration}
use Rattle.am_config.specs.Judging.{reading}
use Rattle.am_config.specs.declared.refusal.ConfigRefusal.{ConfigRefusal}
use Rattle.am_draft.specs.Drafts.{draft_in}
use Rattle.am_item.specs.Best.{item_at}
use Rattle.am_book.specs.Book.{items_of}
use Rattle.am_item.specs.declared.key.ThingKey.TheVariants.{Configuration as ConfigurationKey}
use Rattle.am_item.specs.declared.item.Item.{Item}
use Rattle.am_item.specs.declared.item.Thing.{Thing}
use Rattle.am_item.specs.declared.item.Thing.TheVariants.{Configuration as Stored, Silence, Alert, SentEntry}

-- the configuration that was read; the default one where the text was refused
abbrev pub or_default : Result Configuration ConfigRefusal → Configuration
or_default (Ok configuration) = configuration
or_default (Err refusal) = default_configuration

-- what a thing says to use: what the text of a configuration is read as, by the grammars alone, and the default one where
-- the text is refused, where the configuration was deleted, and where the thing is no configuration
abbrev pub configuration_by : Thing → Configuration
configuration_by (Stored (Some text)) = or_default (reading (draft_in text))
configuration_by (Stored None) = default_configuration
configuration_by (Silence silence) = default_configuration
configuration_by (Alert alert) = default_configuration
configuration_by (SentEntry entry) = default_configuration

-- what the item says to use, where there is one
abbrev pub configuration_at : Option Item → Configuration
configuration_at None = default_configuration
configuration_at (Some item) = configuration_by item.thing

-- the configuration that is in use where these items are held of a tenant
unfoldable pub configuration_in : List Item → Configuration
configuration_in held = configuration_at (item_at ConfigurationKey held)

-- what was read for a tenant
abbrev pub read_for : List ℕ → BTreeMap (List ℕ) Configuration → Option Configuration
read_for t read = get (slice_cmp nat_cmp) read t

-- each configuration that was read is the one that is in use where these items are held of all tenants
abbrev pub AreInUse : BTreeMap (List ℕ) Configuration → List (List ℕ × Item) → Type 0
AreInUse read held = (t : List ℕ) → IfSome (read_for t read) (λ c. c ≡ configuration_in (items_of t held))
