-- What becomes of notices: the first try of an attempt, its outcome, the next try, and what is to be recorded.
use Rattle.std.specs.Prelude.{◌≡◌, ℕ, Bool, ◌+◌, nat_le, true, false, List, [], ◌∷◌, Option, Some, None}
use Rattle.am_agenda.specs.Plan.{with_desk}
use Rattle.am_context.specs.declared.context.Context.{Context}
use Rattle.am_item.specs.Counts.{greatest_count}
use Rattle.am_item.specs.declared.entry.EntryKey.{EntryKey}
use Rattle.am_limit.specs.Allowances.{asked}
use Rattle.am_limit.specs.Limits.{has_room, with_limit}
use Rattle.am_notifier.specs.Notifies.{Notifies, with_plan}
use Rattle.am_notifier.specs.Steps.{Step, stays}
use Rattle.am_notifier.specs.declared.next.Next.{Next}
use Rattle.am_notifier.specs.declared.next.Next.TheVariants.{Try, Record}
use Rattle.am_outlet.specs.Attempts.{Desk, added, after_outcome, after_tick, sending_of, without_key}
use Rattle.am_outlet.specs.declared.attempt.Notice.{Notice}
use Rattle.am_outlet.specs.declared.attempt.Sending.{Sending}
use Rattle.am_telling.specs.declared.telling.Telling.{Telling}
use Rattle.am_telling.specs.declared.telling.Telling.TheVariants.{Notify, Keep}

-- with these attempts
abbrev pub at_desk : Desk → Notifies → Notifies
at_desk desk notifies = with_plan (with_desk desk notifies.plan) notifies

-- a try goes out next, where there is one
abbrev pub tried : Option Sending → List Next
tried None = []
tried (Some sending) = Try sending ∷ []

-- the minute has a notice left: it is counted, and the first try of a new attempt goes out; else nothing does
abbrev pub started_if : Bool → Notice → Notifies → Step
started_if true notice notifies = record {
  notifies = at_desk (added notice notifies.plan.desk) notifies;
  next = Try (sending_of (notifies.plan.desk.used + 1) 1 notice) ∷ [];
  fits = nat_le (notifies.plan.desk.used + 1) greatest_count;
}
started_if false notice notifies = stays notifies

unfoldable pub notified : Context → Notice → Notifies → Step
notified context notice notifies =
    started_if (has_room (with_limit notifies.noticed context.limits.notices) context.moment) notice
    (record notifies { noticed = asked context.limits.notices context.moment notifies.noticed })

-- what is told to a webhook; or that there is nothing to tell is to be recorded at once
abbrev pub told : Context → Telling → Notifies → Step
told context (Notify notice) notifies = notified context notice notifies
told context (Keep key span) notifies = record {
  notifies = notifies;
  next = Record (record { key = key; firing = []; resolved = []; span = span }) ∷ [];
  fits = true;
}

-- the outcome of a try was taken: a status, or none
abbrev pub with_outcome : (number tries moment : ℕ) → Option ℕ → Notifies → Notifies
with_outcome number tries moment status notifies =
    at_desk (after_outcome number tries moment status notifies.plan.desk) notifies

-- the next try of an attempt goes out, where it is due
abbrev pub with_retry : (number moment : ℕ) → Notifies → Notifies
with_retry number moment notifies = at_desk (after_tick number moment notifies.plan.desk) notifies

-- no attempt is open that tells of this key
abbrev pub IsUntried : EntryKey → Notifies → Type 0
IsUntried key notifies = without_key key notifies.plan.desk.open_ones ≡ notifies.plan.desk.open_ones

-- .. of what is told
abbrev pub MayTell : Telling → Notifies → Type 0
MayTell (Notify notice) notifies = IsUntried notice.key notifies
MayTell (Keep key span) notifies = Unit {0}
