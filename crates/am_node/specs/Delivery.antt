-- What becomes of notices: the first try of an attempt, its outcome, the next try, and what records that a webhook was
-- told.
use Rattle.std.specs.Prelude.{ℕ, Bool, ◌+◌, nat_le, true, false, List, [], ◌∷◌, Option, Some, None}
use Rattle.am_labels.specs.declared.Label.{Label}
use Rattle.am_item.specs.declared.entry.EntryKey.{EntryKey}
use Rattle.am_item.specs.declared.item.Item.{Item}
use Rattle.am_item.specs.Best.{all_joined}
use Rattle.am_alert.specs.Made.{greatest_count, stamp_moment}
use Rattle.am_limit.specs.Allowances.{asked}
use Rattle.am_limit.specs.Limits.{has_room, with_limit}
use Rattle.am_outlet.specs.Attempts.{Desk, added, after_outcome, after_tick, attempt_at, awaits_outcome, next_of}
use Rattle.am_outlet.specs.Attempts.{outcome_of, sending_of}
use Rattle.am_outlet.specs.declared.attempt.Notice.{Notice}
use Rattle.am_outlet.specs.declared.attempt.Sending.{Sending}
use Rattle.am_outlet.specs.declared.outcome.Outcome.{Outcome}
use Rattle.am_outlet.specs.declared.outcome.Outcome.TheVariants.{NotOpen, Delivered, Again, GivenUp}
use Rattle.am_notifier.specs.Planned.{Keep, Notify, Telling, with_desk}
use Rattle.am_context.specs.declared.context.Context.{Context}
use Rattle.am_context.specs.declared.receipt.Receipt.{Receipt}
use Rattle.am_notifier.specs.declared.next.Next.{Next}
use Rattle.am_notifier.specs.declared.next.Next.TheVariants.{Try, Record}
use Rattle.am_replica.specs.Recording.{entry_stamped, seen}
use Rattle.am_node.specs.Local.{Local, Reaction, Said, Records, Tells, stays}

-- with these attempts
abbrev pub at_desk : Desk → Local → Local
at_desk desk local = record local { plan = with_desk desk local.plan }

-- ---- what is recorded

-- it is stamped now, or one past what is recorded of the key already, with the next count
abbrev pub entry_of : Context → EntryKey → (firing resolved : List (List Label)) → (span : ℕ) → Local → Item
entry_of context key firing resolved span local =
    entry_stamped context key firing resolved span (stamp_moment context.moment (seen key local.held))
    (local.ledger.stamps + 1)

-- and accepted
unfoldable pub recorded : Context → EntryKey → (firing resolved : List (List Label)) → (span : ℕ) → Local → Reaction
recorded context key firing resolved span local = record {
  local = record local {
    held = all_joined local.held (entry_of context key firing resolved span local ∷ []);
    ledger = record (local.ledger) { stamps = local.ledger.stamps + 1 };
  };
  said = Records (entry_of context key firing resolved span local) ∷ [];
  fits = nat_le (local.ledger.stamps + 1) greatest_count;
}

-- .. by what is to be recorded
abbrev pub received : Context → Receipt → Local → Reaction
received context receipt local = recorded context receipt.key receipt.firing receipt.resolved receipt.span local

-- ---- what a flush tells

-- the minute has a notice left: it is counted, and the first try of a new attempt goes out; else nothing does
abbrev pub started_if : Bool → Notice → Local → Reaction
started_if true notice local = record {
  local = at_desk (added notice local.plan.desk) local;
  said = Tells (sending_of (local.plan.desk.used + 1) 1 notice) ∷ [];
  fits = nat_le (local.plan.desk.used + 1) greatest_count;
}
started_if false notice local = stays local

unfoldable pub notified : Context → Notice → Local → Reaction
notified context notice local =
    started_if (has_room (with_limit local.noticed context.limits.notices) context.moment) notice
    (record local { noticed = asked context.limits.notices context.moment local.noticed })

-- what is told to a webhook; or that there is nothing to tell is recorded at once
abbrev pub told : Context → Telling → Local → Reaction
told context (Notify notice) local = notified context notice local
told context (Keep key span) local = recorded context key [] [] span local

-- what comes next of it is done, as it stands
abbrev pub obeyed : Context → Next → Local → Reaction
obeyed context (Try sending) local = record { local = local; said = Tells sending ∷ []; fits = true }
obeyed context (Record receipt) local = received context receipt local

-- ---- outcomes and further tries

-- a notice that was delivered is recorded; else nothing is done but that the attempt goes on or is closed
abbrev pub settled : Context → Outcome → Local → Reaction
settled context NotOpen local = stays local
settled context (Delivered notice) local = recorded context notice.key notice.firing notice.resolved notice.span local
settled context (Again due) local = stays local
settled context GivenUp local = stays local

-- the outcome of a try: a status, or none
unfoldable pub outcome : Context → (number tries : ℕ) → Option ℕ → Local → Reaction
outcome context number tries status local =
    settled context (outcome_of number tries context.moment status local.plan.desk.open_ones)
    (at_desk (after_outcome number tries context.moment status local.plan.desk) local)

-- a try goes out, where there is one
abbrev pub tells : Option Sending → List Said
tells None = []
tells (Some sending) = Tells sending ∷ []

-- an item records that a webhook was told, where there is one
abbrev pub records : Option Item → List Said
records None = []
records (Some item) = Records item ∷ []

-- the next try of an attempt, where it is due
unfoldable pub retried : Context → (number : ℕ) → Local → Reaction
retried context number local = record {
  local = at_desk (after_tick number context.moment local.plan.desk) local;
  said = tells (next_of number context.moment local.plan.desk);
  fits = true;
}

-- the outcome of this try is awaited
unfoldable pub is_awaited : (number tries : ℕ) → Local → Bool
is_awaited number tries local = awaits_outcome tries (attempt_at number local.plan.desk.open_ones)
