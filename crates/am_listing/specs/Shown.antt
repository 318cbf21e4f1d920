-- Which alerts a query shows.
use Rattle.std.specs.Prelude.{ℕ, Bool, not, ◌&&◌, ◌||◌, List, filter}
use Rattle.am_item.specs.declared.item.Alert.{Alert}
use Rattle.am_item.specs.declared.item.Item.{Item}
use Rattle.am_item.specs.declared.stamp.Stamped.{Stamped}
use Rattle.am_match.specs.Meaning.{all_take}
use Rattle.am_config.specs.Configuration.{Configuration}
use Rattle.am_alert.specs.Held.{firing}
use Rattle.am_muting.specs.Muting.{Muting, is_inhibited, is_silenced, muting_of}
use Rattle.am_payload.specs.Receivers.{names_at}
use Rattle.am_query.specs.declared.query.Query.{Query}
use Rattle.am_listing.specs.Receivers.{is_asked, receivers_of}

-- a query lets an alert through that is silenced or not, and inhibited or not: `active` asks for those that nothing
-- mutes, `silenced` for those that a silence silences, `inhibited` for those that an alert inhibits, and one that is
-- muted twice has to be asked for twice
abbrev pub lets_through : Query → (silenced inhibited : Bool) → Bool
lets_through query silenced inhibited =
    (query.active || (silenced || inhibited))
    && ((query.silenced || not silenced) && (query.inhibited || not inhibited))

-- the same of an alert by what mutes it
abbrev pub lets_muted_through : Query → Muting → Bool
lets_muted_through query muting = lets_through query (is_silenced muting) (is_inhibited muting)

-- the query lets an alert through for what mutes it, and all matchers take it
abbrev pub is_passed : Configuration → Query → ℕ → List Item → Stamped Alert → Bool
is_passed c query moment held alert =
    lets_muted_through query (muting_of c moment held alert.value.labels) && all_take query.matchers alert.value.labels

-- the alerts that fire and that pass, in their order
abbrev pub passed : Configuration → Query → ℕ → List Item → List (Stamped Alert)
passed c query moment held = filter (λ alert. is_passed c query moment held alert) (firing moment held)

-- beside that a receiver of it is asked for
abbrev pub is_shown : Configuration → Query → ℕ → List Item → Stamped Alert → Bool
is_shown c query moment held alert =
    is_passed c query moment held alert && is_asked query.receiver (names_at c (receivers_of c alert.value.labels))

-- the alerts that fire and that a query shows, in their order
unfoldable pub shown : Configuration → Query → ℕ → List Item → List (Stamped Alert)
shown c query moment held = filter (λ alert. is_shown c query moment held alert) (firing moment held)
