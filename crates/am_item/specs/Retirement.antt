-- When things retire.
use Rattle.std.specs.Prelude.{ℕ, Bool, false, ◌+◌, ◌*◌, min, max, nat_le, Option, Some, None, if◌then◌else◌}
use Rattle.std.specs.Option.{option_map_or}
use Rattle.std.specs.Ordering.{is_gt}
use Rattle.am_text.specs.Moment.{greatest_moment}
use Rattle.am_item.specs.Stamp.{stamp_cmp}
use Rattle.am_item.specs.declared.held.Put.{Put}
use Rattle.am_item.specs.declared.held.Put.TheVariants.{New, Older, Replaced}
use Rattle.am_item.specs.declared.held.Standing.{Standing}
use Rattle.am_item.specs.declared.item.Item.{Item}
use Rattle.am_item.specs.declared.item.Thing.{Thing}
use Rattle.am_item.specs.declared.item.Thing.TheVariants.{Configuration, Silence, Alert, SentEntry}
use Rattle.am_item.specs.declared.stamp.Stamp.{Stamp}
use Rattle.am_item.specs.declared.stamp.Stamped.{Stamped}

-- the milliseconds of an hour
abbrev pub hour : ℕ
hour = 3_600_000

-- the moment that many milliseconds later, or the greatest where that would pass it
abbrev pub moment_after : ℕ → ℕ → ℕ
moment_after moment milliseconds = min (moment + milliseconds) greatest_moment

-- from when on a thing that was written at a moment is retired: a configuration never, a silence 120 hours after it last
-- counts as in use, an alert an hour after its end or its write, whichever is later, a sent entry an hour after its end
abbrev pub thing_retires_at : ℕ → Thing → Option ℕ
thing_retires_at written (Configuration text) = None
thing_retires_at written (Silence silence) = Some (moment_after silence.kept_until (120 * hour))
thing_retires_at written (Alert alert) = Some (moment_after (max alert.ends_at written) hour)
thing_retires_at written (SentEntry entry) = Some (moment_after entry.ends_at hour)

-- from when on an item is retired
unfoldable pub retires_at : Item → Option ℕ
retires_at item = thing_retires_at item.stamp.moment item.thing

-- the item is retired at the moment
abbrev pub is_retired : ℕ → Item → Bool
is_retired moment item = option_map_or (λ at. nat_le at moment) (retires_at item) false

-- the stamp of an item, and from when on it is retired
abbrev pub standing_of : Item → Standing
standing_of item = record { stamp = item.stamp; retires_at = retires_at item }

-- the same of what is held of it beside its key, where that tells from when on it is retired
abbrev pub held_standing : {V : Type 0} → (ℕ → V → ℕ) → Stamped V → Standing
held_standing retires held = record { stamp = held.stamp; retires_at = Some (retires held.stamp.moment held.value) }

-- what a put of an item with the stamp does, where this stands at the item's key
abbrev pub put_over : Option Standing → Stamp → Put
put_over None stamp = New
put_over (Some old) stamp = if is_gt (stamp_cmp stamp old.stamp) then Replaced old else Older
