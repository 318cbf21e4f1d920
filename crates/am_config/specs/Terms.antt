-- What a draft's routes say themselves, and how long an alert without an end fires: names and durations are read. A refusal is
-- that of the first duration that is none or too short.
use Rattle.std.specs.Prelude.{ℕ, nat_le, List, [], ◌∷◌, Option, Some, None, option_and_then, Result, Ok, Err, is_some, unwrap_or, if◌then◌else◌}
use Rattle.am_text.specs.Duration.{duration}
use Rattle.am_text.specs.Outcome.{◌>>=◌}
use Rattle.am_text.specs.declared.refusal.TextRefusal.{TextRefusal}
use Rattle.am_text.specs.declared.refusal.TextRefusal.TheVariants.{OutOfRange}
use Rattle.am_text.specs.declared.tree.Node.{Node}
use Rattle.am_draft.specs.declared.draft.Draft.{Draft}
use Rattle.am_draft.specs.declared.receiver.ReceiverDraft.{ReceiverDraft}
use Rattle.am_draft.specs.declared.route.RouteDraft.{RouteDraft}
use Rattle.am_config.specs.declared.terms.Own.{Own}
use Rattle.am_config.specs.declared.terms.Terms.{Terms}
use Rattle.am_config.specs.Places.{place}

-- the shortest `group_interval` and `repeat_interval`, in milliseconds
abbrev pub shortest_interval : ℕ
shortest_interval = 1000

-- how long an alert without an end fires where nothing is written: 5 minutes
abbrev pub default_resolve_timeout : ℕ
default_resolve_timeout = 300_000

-- at least so many milliseconds
abbrev pub long_enough : ℕ → ℕ → Result ℕ TextRefusal
long_enough least milliseconds = if nat_le least milliseconds then Ok milliseconds else Err OutOfRange

-- the milliseconds of a duration, at least so many
abbrev pub duration_in : ℕ → List ℕ → Result ℕ TextRefusal
duration_in least text = duration text >>= long_enough least

-- the same where one is written
abbrev pub span_in : ℕ → Option (List ℕ) → Result (Option ℕ) TextRefusal
span_in least None = Ok None
span_in least (Some text) = duration_in least text >>= λ milliseconds. Ok (Some milliseconds)

-- the place of the receiver that is named
abbrev pub place_of : List ReceiverDraft → Option (List ℕ) → Option ℕ
place_of receivers name = option_and_then (place receivers) name

-- what a route says itself
unfoldable pub own_in : List ReceiverDraft → RouteDraft → Result Own TextRefusal
own_in receivers route = do
  group_wait ← span_in 0 route.intervals.group_wait
  group_interval ← span_in shortest_interval route.intervals.group_interval
  repeat_interval ← span_in shortest_interval route.intervals.repeat_interval
  Ok (record {
    receiver = place_of receivers route.receiver;
    is_grouped = is_some route.grouping;
    group_wait = group_wait;
    group_interval = group_interval;
    repeat_interval = repeat_interval;
  })

-- what the routes say, in the same tree
unfoldable pub owns_in : List ReceiverDraft → List (Node RouteDraft) → Result (List (Node Own)) TextRefusal
owns_in receivers [] = Ok []
owns_in receivers (node ∷ nodes) = do
  own ← own_in receivers node.item
  owns ← owns_in receivers nodes
  Ok (record { item = own; within = node.within } ∷ owns)

unfoldable pub terms_in : Draft → Result Terms TextRefusal
terms_in draft = do
  written ← span_in 0 draft.global.resolve_timeout
  owns ← owns_in draft.receivers draft.routes
  Ok (record { resolve_timeout = unwrap_or written default_resolve_timeout; owns = owns })
