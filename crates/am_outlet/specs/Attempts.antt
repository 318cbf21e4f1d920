-- A tenant's open attempts: what starts, ends and changes one.
use Rattle.std.specs.Prelude.{◌≡◌, ℕ, ◌+◌, ◌≤◌, ◌==◌, Bool, true, false, not, nat_le, List, [], ◌∷◌, ◌++◌, map, filter, find, Option, Some, None, option_map, is_some, if◌then◌else◌}
use Rattle.std.specs.BTreeMap.{is_at}
use Rattle.std.specs.List.Sorted.{IsStrictlySortedBy}
use Rattle.std.specs.Map.{keys_of, lookup}
use Rattle.std.specs.Ordering.{is_eq, nat_cmp}
use Rattle.am_item.specs.EntryKey.{entry_cmp}
use Rattle.am_item.specs.declared.entry.EntryKey.{EntryKey}
use Rattle.am_outlet.specs.declared.attempt.Attempt.{Attempt}
use Rattle.am_outlet.specs.declared.attempt.Notice.{Notice}
use Rattle.am_outlet.specs.declared.attempt.Sending.{Sending}
use Rattle.am_outlet.specs.declared.outcome.Outcome.{Outcome}
use Rattle.am_outlet.specs.declared.outcome.Outcome.TheVariants.{NotOpen, Delivered, Again, GivenUp}
use Rattle.am_outlet.specs.Outcomes.{awaits, fate_of}
use Rattle.am_outlet.specs.Requests.{request}

-- how many numbers a tenant's attempts have used, and the open ones with their numbers, in order of number
pub record Desk : Type 0 where
  pub used : ℕ
  pub open_ones : List (ℕ × Attempt)

-- what goes out at a try
abbrev pub sending_of : ℕ → ℕ → Notice → Sending
sending_of number tries notice =
    record { number = number; tries = tries; url = notice.url.text; bytes = request notice.url notice.body }

-- the attempt of a number
abbrev pub attempt_at : ℕ → List (ℕ × Attempt) → Option Attempt
attempt_at number attempts = lookup (is_at (nat_cmp number)) attempts

-- the attempt tells of this key
abbrev pub has_key : EntryKey → Attempt → Bool
has_key key attempt = is_eq (entry_cmp key attempt.notice.key)

-- the attempts but that of the number
abbrev pub without_number : ℕ → List (ℕ × Attempt) → List (ℕ × Attempt)
without_number number attempts = filter (λ p. not (number == p.0)) attempts

-- the attempts but that of the key
abbrev pub without_key : EntryKey → List (ℕ × Attempt) → List (ℕ × Attempt)
without_key key attempts = filter (λ p. not (has_key key p.1)) attempts

-- the number of the attempt of a key
abbrev pub number_with : EntryKey → List (ℕ × Attempt) → Option ℕ
number_with key attempts = option_map (λ p. p.0) (find (λ p. has_key key p.1) attempts)

-- an attempt after so many tries
abbrev pub tried : ℕ → Option ℕ → Attempt → Attempt
tried tries again attempt = record { notice = attempt.notice; tries = tries; again = again }

-- the attempts, that of the number after so many tries
abbrev pub with_tries : ℕ → ℕ → Option ℕ → List (ℕ × Attempt) → List (ℕ × Attempt)
with_tries number tries again attempts = map (λ p. if number == p.0 then (p.0, tried tries again p.1) else p) attempts

-- ---- a notice goes out

-- with the attempt of a new notice, which has the next number
abbrev pub added : Notice → Desk → Desk
added notice desk = record {
  used = desk.used + 1;
  open_ones = desk.open_ones ++ (desk.used + 1, record { notice = notice; tries = 1; again = None }) ∷ [];
}

-- without the attempt of the key
abbrev pub without : EntryKey → Desk → Desk
without key desk = record { used = desk.used; open_ones = without_key key desk.open_ones }

-- the attempt of a new notice takes the place of that of its key
abbrev pub started : Notice → Desk → Desk
started notice desk = added notice (without notice.key desk)

-- ---- an outcome comes

-- what it makes of an attempt that is there
abbrev pub told_to : Option Attempt → ℕ → ℕ → Option ℕ → Outcome
told_to None tries moment status = NotOpen
told_to (Some attempt) tries moment status = if awaits tries attempt then fate_of attempt moment status else NotOpen

abbrev pub outcome_of : (number tries moment : ℕ) → Option ℕ → List (ℕ × Attempt) → Outcome
outcome_of number tries moment status attempts = told_to (attempt_at number attempts) tries moment status

-- whether an attempt that may be there awaits the outcome of this try
abbrev pub awaits_outcome : (tries : ℕ) → Option Attempt → Bool
awaits_outcome tries None = false
awaits_outcome tries (Some attempt) = awaits tries attempt

-- the attempts after an outcome of a try
abbrev pub left_by : Outcome → (number tries : ℕ) → List (ℕ × Attempt) → List (ℕ × Attempt)
left_by NotOpen number tries attempts = attempts
left_by (Delivered notice) number tries attempts = without_number number attempts
left_by (Again due) number tries attempts = with_tries number tries (Some due) attempts
left_by GivenUp number tries attempts = without_number number attempts

-- ---- a tick comes

-- the next try is due
abbrev pub is_due : ℕ → Option ℕ → Bool
is_due now None = false
is_due now (Some due) = nat_le due now

-- how many tries there are then of an attempt that is there; none where no try is due
abbrev pub next_try : ℕ → Option Attempt → Option (ℕ × Notice)
next_try now None = None
next_try now (Some attempt) = if is_due now attempt.again then Some (attempt.tries + 1, attempt.notice) else None

-- what goes out at a tick
abbrev pub sent_again : ℕ → Option (ℕ × Notice) → Option Sending
sent_again number next = option_map (λ p. sending_of number p.0 p.1) next

-- the attempts after a tick
abbrev pub ticked : ℕ → Option (ℕ × Notice) → List (ℕ × Attempt) → List (ℕ × Attempt)
ticked number None attempts = attempts
ticked number (Some p) attempts = with_tries number p.0 None attempts

-- ---- a whole desk

-- after an outcome of a try
abbrev pub after_outcome : (number tries moment : ℕ) → Option ℕ → Desk → Desk
after_outcome number tries moment status desk = record {
  used = desk.used;
  open_ones = left_by (outcome_of number tries moment status desk.open_ones) number tries desk.open_ones;
}

-- what goes out at a tick, and what is left
abbrev pub next_of : (number now : ℕ) → Desk → Option Sending
next_of number now desk = sent_again number (next_try now (attempt_at number desk.open_ones))

abbrev pub after_tick : (number now : ℕ) → Desk → Desk
after_tick number now desk =
    record { used = desk.used; open_ones = ticked number (next_try now (attempt_at number desk.open_ones)) desk.open_ones }

-- no attempt is left, and their numbers stay used
abbrev pub cleared : Desk → Desk
cleared desk = record { used = desk.used; open_ones = [] }

-- the desk of a tenant that has had no attempt
abbrev pub no_attempts : Desk
no_attempts = record { used = 0; open_ones = [] }

-- ---- how the maps of a desk go together

-- the number that is told of a key
abbrev pub number_in : List (EntryKey × ℕ) → EntryKey → Option ℕ
number_in numbers key = lookup (is_at (entry_cmp key)) numbers

-- an attempt has at most five tries, and at most four where there is another one
abbrev pub AreTries : ℕ → Option ℕ → Type 0
AreTries tries again = (tries ≤ 5) × (is_some again ≡ true → tries ≤ 4)

-- the attempts are in order of their numbers, which are used; of each its number is told of its key, and no other number
pub record IsKept (used : ℕ) (attempts : List (ℕ × Attempt)) (numbers : List (EntryKey × ℕ)) : Type 0 where
  pub rising : IsStrictlySortedBy nat_cmp (keys_of attempts)
  pub past : (number : ℕ) (attempt : Attempt) → attempt_at number attempts ≡ Some attempt → number ≤ used
  pub told : (number : ℕ) (attempt : Attempt) → attempt_at number attempts ≡ Some attempt → number_in numbers attempt.notice.key ≡ Some number
  pub there : (key : EntryKey) (number : ℕ) → number_in numbers key ≡ Some number → option_map (λ attempt. attempt.notice.key) (attempt_at number attempts) ≡ Some key
  pub tries : (number : ℕ) (attempt : Attempt) → attempt_at number attempts ≡ Some attempt → AreTries attempt.tries attempt.again
