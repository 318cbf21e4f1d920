-- What is planned goes with its timers as an attempt is opened, tried or closed.
use Rattle.std.proofs.Common.{◌≡◌, ℕ, Bool, true, false, ◌==◌, ◌+◌, cond, arith, List, Option, Some, None, IfSome, Result, Ok, Err, IfOk, OnOk, refl, sym, ap, ◌∙◌}
use Rattle.std.specs.Option.{IfNone, is_none, is_some, option_and_then}
use Rattle.std.specs.Result.{is_err}
use Rattle.std.proofs.lemmas.Bool.{and_parts, false≢true}
use Rattle.std.proofs.lemmas.Bool.Decides.{nat_tests}
use Rattle.am_tenant.specs.Names.{same}
use Rattle.am_tenant.proofs.Same.{eq_from_same, same-refl}
use Rattle.am_item.specs.declared.entry.EntryKey.{EntryKey}
use Rattle.am_members.specs.Grouped.{Grouped, grouped_of}
use Rattle.am_members.specs.Members.{gave}
use Rattle.am_outlet.specs.declared.attempt.Attempt.{Attempt}
use Rattle.am_outlet.specs.declared.attempt.Notice.{Notice}
use Rattle.am_outlet.specs.declared.attempt.Sending.{Sending}
use Rattle.am_outlet.specs.declared.outcome.Outcome.{Outcome}
use Rattle.am_outlet.specs.declared.outcome.Outcome.TheVariants.{NotOpen, Delivered, Again, GivenUp}
use Rattle.am_outlet.specs.Attempts.{Desk, added, after_outcome, after_tick, attempt_at, left_by, next_of, next_try, outcome_of, sent_again, started, ticked, told_to, tried, with_tries, without, without_key, without_number}
use Rattle.am_outlet.specs.Desks.{Desks, desk_of}
use Rattle.am_outlet.specs.Outcomes.{awaits}
use Rattle.am_timer.specs.Tied.{has_timer}
use Rattle.am_timer.specs.Timer.{Timer}
use Rattle.am_agenda.specs.Paces.{paces_of}
use Rattle.am_planning.specs.declared.pace.Pace.{Pace}
use Rattle.am_agenda.specs.Plan.{Plan, retry_due, with_desk}
use Rattle.am_agenda.specs.Planned.{IsKept, Plans, due_after, is_retry, plan_of, with_retry, without_retry}
use Rattle.am_agenda.proofs.Retries.{come, gone, kept_still, kept_trying, retry_cancelled, retry_set, tried_at}

-- what is said of an attempt of a list that one went from
within : (b : Bool) (o : Option Attempt) → option_and_then (λ (a : Attempt). a.again) (cond b None o) ≡ cond b None (option_and_then (λ (a : Attempt). a.again) o)
within true o = refl
within false o = refl

-- one that was tried awaits the outcome
awaited : (b : Bool) (tries : ℕ) (o : Option Attempt) → option_and_then (λ (a : Attempt). a.again) (cond b (option_and_then (λ a. Some (tried tries None a)) o) o) ≡ cond b None (option_and_then (λ (a : Attempt). a.again) o)
awaited true tries None = refl
awaited true tries (Some a) = refl
awaited false tries o = refl

itself : (n : ℕ) → (n == n) ≡ true
itself n = grind (arith, nat_tests)

module _ (book : List (List ℕ × List Pace)) (groups : List (List ℕ × Grouped)) (desks others : Desks) (t : List ℕ) where
  abbrev old : Plans
  old = record { paces = book; groups = groups; desks = desks }

  abbrev new : Plans
  new = record { paces = book; groups = groups; desks = others }

  -- the attempts of one tenant became f of what they were
  abbrev Becomes : (Desk → Desk) → Type 0
  Becomes f = (s : List ℕ) → desk_of s others ≡ cond (same s t) (f (desk_of s desks)) (desk_of s desks)

  own : (f : Desk → Desk) → Becomes f → desk_of t others ≡ f (desk_of t desks)
  own f made = made t ∙ ap (λ b. cond b (f (desk_of t desks)) (desk_of t desks)) (same-refl t)

  apart : (f : Desk → Desk) → Becomes f → (s : List ℕ) → same s t ≡ false → desk_of s others ≡ desk_of s desks
  apart f made s other = made s ∙ ap (λ b. cond b (f (desk_of s desks)) (desk_of s desks)) other

  pub desk_changed : (f : Desk → Desk) → Becomes f → (s : List ℕ) → plan_of s new ≡ cond (same s t) (with_desk (f (plan_of s old).desk) (plan_of s old)) (plan_of s old)
  unfolding plan_of
  desk_changed f made s = ap (λ d. let p : Plan = record { paces = paces_of s book; grouped = grouped_of s groups; desk = d } in p) (made s) ∙ by_case (same s t)
    where
      with_it : Desk → Plan
      with_it d = record { paces = paces_of s book; grouped = grouped_of s groups; desk = d }

      by_case : (b : Bool) → with_it (cond b (f (desk_of s desks)) (desk_of s desks)) ≡ cond b (with_it (f (desk_of s desks))) (with_it (desk_of s desks))
      by_case true = refl
      by_case false = refl

  -- nothing changes when next tries are due
  still : (f : Desk → Desk) (timers : List Timer) → IsKept old timers → Becomes f → ((n : ℕ) → retry_due (f (desk_of t desks)) n ≡ retry_due (desk_of t desks) n) → IsKept new timers
  still f timers kept made stays = kept_still book groups desks others timers kept (λ s n. by_tenant s n (same s t) refl)
    where
      by_tenant : (s : List ℕ) (n : ℕ) (b : Bool) → same s t ≡ b → retry_due (desk_of s others) n ≡ retry_due (desk_of s desks) n
      by_tenant s n true e =
          let it = eq_from_same s t e in
          ap (λ r. retry_due (desk_of r others) n) it ∙ ap (λ (d : Desk). retry_due d n) (own f made) ∙ stays n ∙ ap (λ r. retry_due (desk_of r desks) n) (sym it)
      by_tenant s n false e = ap (λ (d : Desk). retry_due d n) (apart f made s e)

  -- the attempt of a number went, whose next try had this timer
  went : (f : Desk → Desk) (number : ℕ) (timers after : List Timer) → IsKept old timers → Becomes f → ((n : ℕ) → retry_due (f (desk_of t desks)) n ≡ cond (number == n) None (retry_due (desk_of t desks) n))
      → after ≡ without_retry t (Some number) timers → IsKept new after
  went f number timers after kept made goes is =
      kept_trying book groups desks others t number timers after kept (apart f made)
      (λ n another. ap (λ (d : Desk). retry_due d n) (own f made) ∙ goes n ∙ rw another refl)
      (λ x. retry_cancelled t number timers after is x ∙ ap (λ o. cond (is_retry t number x) (gave o x.due) (has_timer timers x)) (sym none))
    where
      none : retry_due (desk_of t others) number ≡ None
      none = ap (λ (d : Desk). retry_due d number) (own f made) ∙ goes number ∙ ap (λ b. cond b None (retry_due (desk_of t desks) number)) (itself number)

  -- the attempt of a key was closed
  pub kept_dropped : (key : EntryKey) (found : Option ℕ) (timers after : List Timer) → IsKept old timers → Becomes (without key)
      → IfSome found (λ number. without_key key (desk_of t desks).open_ones ≡ without_number number (desk_of t desks).open_ones)
      → IfNone found (without_key key (desk_of t desks).open_ones ≡ (desk_of t desks).open_ones)
      → after ≡ without_retry t found timers → IsKept new after
  kept_dropped key None timers after kept made one none is = rw is (still (without key) timers kept made (λ n. ap (λ es. option_and_then (λ (a : Attempt). a.again) (attempt_at n es)) none))
  kept_dropped key (Some number) timers after kept made one none is =
      went (without key) number timers after kept made
      (λ n. ap (λ es. option_and_then (λ (a : Attempt). a.again) (attempt_at n es)) one ∙ ap (option_and_then (λ (a : Attempt). a.again)) (gone number n (desk_of t desks).open_ones) ∙ within (number == n) (attempt_at n (desk_of t desks).open_ones)) is

  -- an attempt was opened
  pub kept_started : (notice : Notice) (timers : List Timer) → IsKept old timers → Becomes (added notice) → IsKept new timers
  kept_started notice timers kept made = still (added notice) timers kept made (λ n. come ((desk_of t desks).used + 1) n _ (desk_of t desks).open_ones refl)

  -- an attempt was tried again, where its next try was due
  pub kept_retried : (number now : ℕ) (sending : Option Sending) (timers after : List Timer) → IsKept old timers → Becomes (after_tick number now) → sending ≡ next_of number now (desk_of t desks)
      → after ≡ without_retry t (cond (is_some sending) (Some number) None) timers → IsKept new after
  kept_retried number now sending timers after kept made sent is = by_next (next_try now (attempt_at number (desk_of t desks).open_ones)) refl
    where
      gone_on : (es : List (ℕ × Attempt)) → Desk
      gone_on es = record { used = (desk_of t desks).used; open_ones = es }

      by_next : (o : Option (ℕ × Notice)) → next_try now (attempt_at number (desk_of t desks).open_ones) ≡ o → IsKept new after
      by_next None e =
          let unsent : sending ≡ None = sent ∙ ap (sent_again number) e in
          rw (is ∙ ap (λ o. without_retry t (cond (is_some o) (Some number) None) timers) unsent)
          (still (after_tick number now) timers kept made (λ n. ap (λ o. retry_due (gone_on (ticked number o (desk_of t desks).open_ones)) n) e))
      by_next (Some p) e =
          let went_out : is_some sending ≡ true = ap is_some (sent ∙ ap (sent_again number) e) in
          went (after_tick number now) number timers after kept made
          (λ n. ap (λ o. retry_due (gone_on (ticked number o (desk_of t desks).open_ones)) n) e
          ∙ ap (option_and_then (λ (a : Attempt). a.again)) (tried_at number n p.0 None (desk_of t desks).open_ones) ∙ awaited (number == n) p.0 (attempt_at n (desk_of t desks).open_ones))
          (is ∙ ap (λ b. without_retry t (cond b (Some number) None) timers) went_out)

  -- an outcome was taken
  pub kept_told : (number tries moment : ℕ) (status : Option ℕ) (outcome : Outcome) (timers after : List Timer) → IsKept old timers → Becomes (after_outcome number tries moment status)
      → outcome ≡ outcome_of number tries moment status (desk_of t desks).open_ones → after ≡ with_retry t number (due_after outcome) timers → IsKept new after
  kept_told number tries moment status outcome timers after kept made told is = by_attempt (attempt_at number (desk_of t desks).open_ones) refl
    where
      f : Desk → Desk
      f = after_outcome number tries moment status

      es : List (ℕ × Attempt)
      es = (desk_of t desks).open_ones

      left : Outcome → Desk
      left o = record { used = (desk_of t desks).used; open_ones = left_by o number tries es }

      unchanged : (o : Outcome) → outcome_of number tries moment status es ≡ o → due_after o ≡ None → ((n : ℕ) → retry_due (left o) n ≡ retry_due (desk_of t desks) n) → IsKept new after
      unchanged o e none stays =
          rw (is ∙ ap (λ r. with_retry t number (due_after r) timers) (told ∙ e) ∙ ap (λ d. with_retry t number d timers) none)
          (still f timers kept made (λ n. ap (λ r. retry_due (left r) n) e ∙ stays n))

      by_number : (n : ℕ) (b : Bool) → (number == n) ≡ b → retry_due (desk_of t desks) number ≡ None → cond b None (retry_due (desk_of t desks) n) ≡ retry_due (desk_of t desks) n
      by_number n true e none = let it : number ≡ n = grind (arith, nat_tests, e) in sym (ap (retry_due (desk_of t desks)) (sym it) ∙ none)
      by_number n false e none = refl

      closed : (n : ℕ) → retry_due (desk_of t desks) number ≡ None → option_and_then (λ (a : Attempt). a.again) (attempt_at n (without_number number es)) ≡ retry_due (desk_of t desks) n
      closed n none = ap (option_and_then (λ (a : Attempt). a.again)) (gone number n es) ∙ within (number == n) (attempt_at n es) ∙ by_number n (number == n) refl none

      idle : (a : Attempt) → attempt_at number es ≡ Some a → awaits tries a ≡ true → retry_due (desk_of t desks) number ≡ None
      idle a there waits = ap (option_and_then (λ (b : Attempt). b.again)) there ∙ nothing a.again (and_parts (a.tries == tries) (is_none a.again) waits).1
        where
          nothing : (o : Option ℕ) → is_none o ≡ true → o ≡ None
          nothing None h = refl
          nothing (Some due) h = absurd (false≢true h)

      again : (a : Attempt) (due : ℕ) → attempt_at number es ≡ Some a → outcome_of number tries moment status es ≡ Again due → IsKept new after
      again a due there e =
          let listed : attempt_at number (with_tries number tries (Some due) es) ≡ Some (tried tries (Some due) a) = tried_at number number tries (Some due) es ∙ rw (itself number, there) refl in
          let tried_due : retry_due (desk_of t others) number ≡ Some due =
          ap (λ (d : Desk). retry_due d number) (own f made) ∙ ap (λ r. retry_due (left r) number) e
          ∙ ap (option_and_then (λ (b : Attempt). b.again)) listed in
          kept_trying book groups desks others t number timers after kept (apart f made)
          (λ n another. ap (λ (d : Desk). retry_due d n) (own f made) ∙ ap (λ r. retry_due (left r) n) e
          ∙ ap (option_and_then (λ (b : Attempt). b.again)) (others_stay n another))
          (λ x. retry_set t number _ timers after refl (is ∙ ap (λ r. with_retry t number (due_after r) timers) (told ∙ e)) x ∙ ap (λ o. cond (is_retry t number x) (gave o x.due) (has_timer timers x)) (sym tried_due))
        where
          others_stay : (n : ℕ) → (number == n) ≡ false → attempt_at n (with_tries number tries (Some due) es) ≡ attempt_at n es
          others_stay n another = tried_at number n tries (Some due) es ∙ rw another refl

      by_fate : (a : Attempt) (o : Outcome) → attempt_at number es ≡ Some a → awaits tries a ≡ true → outcome_of number tries moment status es ≡ o → IsKept new after
      by_fate a NotOpen there waits e = unchanged NotOpen e refl (λ n. refl)
      by_fate a (Delivered notice) there waits e = unchanged (Delivered notice) e refl (λ n. closed n (idle a there waits))
      by_fate a (Again due) there waits e = again a due there e
      by_fate a GivenUp there waits e = unchanged GivenUp e refl (λ n. closed n (idle a there waits))

      by_awaiting : (a : Attempt) (b : Bool) → attempt_at number es ≡ Some a → awaits tries a ≡ b → IsKept new after
      by_awaiting a true there e = by_fate a (outcome_of number tries moment status es) there e refl
      by_awaiting a false there e = unchanged NotOpen (ap (λ o. told_to o tries moment status) there ∙ rw e refl) refl (λ n. refl)

      by_attempt : (o : Option Attempt) → attempt_at number es ≡ o → IsKept new after
      by_attempt None e = unchanged NotOpen (ap (λ o. told_to o tries moment status) e) refl (λ n. refl)
      by_attempt (Some a) e = by_awaiting a (awaits tries a) e refl

-- an attempt was opened of whose key none was open
pub started_anew : (desks others : Desks) (t : List ℕ) (notice : Notice) → without_key notice.key (desk_of t desks).open_ones ≡ (desk_of t desks).open_ones
    → ((s : List ℕ) → desk_of s others ≡ cond (same s t) (started notice (desk_of s desks)) (desk_of s desks)) → (s : List ℕ) → desk_of s others ≡ cond (same s t) (added notice (desk_of s desks)) (desk_of s desks)
started_anew desks others t notice none made s = made s ∙ by_tenant (same s t) refl
  where
    anew : (d : Desk) → without_key notice.key d.open_ones ≡ d.open_ones → started notice d ≡ added notice d
    anew d h = ap (λ es. added notice (record { used = d.used; open_ones = es })) h

    by_tenant : (b : Bool) → same s t ≡ b → cond b (started notice (desk_of s desks)) (desk_of s desks) ≡ cond b (added notice (desk_of s desks)) (desk_of s desks)
    by_tenant true e = anew (desk_of s desks) (ap (λ r. without_key notice.key (desk_of r desks).open_ones) (eq_from_same s t e) ∙ none ∙ ap (λ r. (desk_of r desks).open_ones) (sym (eq_from_same s t e)))
    by_tenant false e = refl

-- .. where the call met no error
pub kept_told_well : {E : Type 0} (book : List (List ℕ × List Pace)) (groups : List (List ℕ × Grouped)) (desks others : Desks) (t : List ℕ) (number tries moment : ℕ) (status : Option ℕ) (result : Result Outcome E) (timers after : List Timer) → is_err result ≡ false
    → IsKept (record { paces = book; groups = groups; desks = desks }) timers
    → ((s : List ℕ) → desk_of s others ≡ cond (same s t) (after_outcome number tries moment status (desk_of s desks)) (desk_of s desks))
    → IfOk result (λ outcome. outcome ≡ outcome_of number tries moment status (desk_of t desks).open_ones) → IfOk result (λ outcome. after ≡ with_retry t number (due_after outcome) timers)
    → IsKept (record { paces = book; groups = groups; desks = others }) after
kept_told_well book groups desks others t number tries moment status (Ok outcome) timers after well kept made told is = kept_told book groups desks others t number tries moment status outcome timers after kept made told is
kept_told_well book groups desks others t number tries moment status (Err e) timers after well kept made told is = absurd (false≢true (sym well))

-- what is always so is so where a call met no error
pub always : {A E X : Type 0} (result : Result A E) → X → OnOk result X
always (Ok a) x = x
always (Err e) x = tt
