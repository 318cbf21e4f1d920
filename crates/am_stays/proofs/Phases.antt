-- Who of the three is up and settled in a calm view.
use Rattle.std.specs.Prelude.{Bool, true, false, not}
use Rattle.am_stays.specs.Places.{Place, First, Second, Third, same}

-- the two places other than this one
abbrev pub next : Place → Place
next First = Second
next Second = Third
next Third = First

abbrev pub last : Place → Place
last First = Third
last Second = First
last Third = Second

-- In a calm view at most one of the three isn't up and settled: the one that crashed, or the one that came or came back.
pub data Phase : Type 0 where
  Whole : Phase
  Down : (r : Place) → Phase
  Unsettled : (r : Place) → Phase

abbrev pub is_whole : Phase → Bool
is_whole Whole = true
is_whole (Down r) = false
is_whole (Unsettled r) = false

abbrev pub is_up : Phase → Place → Bool
is_up Whole i = true
is_up (Down r) i = not (same i r)
is_up (Unsettled r) i = true

abbrev pub is_settled : Phase → Place → Bool
is_settled Whole i = true
is_settled (Down r) i = not (same i r)
is_settled (Unsettled r) i = not (same i r)

-- the place that isn't settled
abbrev pub is_lacking : Phase → Place → Bool
is_lacking Whole i = false
is_lacking (Down r) i = same i r
is_lacking (Unsettled r) i = same i r
