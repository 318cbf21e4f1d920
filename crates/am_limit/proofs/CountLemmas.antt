-- An allowance and the list of what it gave say the same.
use Rattle.std.proofs.Common.{◌≡◌, ◌∙◌, ◌≤◌, ◌<◌, inl, inr, ℕ, ◌+◌, ◌==◌, nat_lt, min, cond, Bool, true, false, List, [], ◌∷◌, ◌++◌, refl, sym, ap, subst, arith, append_assoc, zero-add}
use Rattle.std.proofs.lemmas.List.{append-nil}
use Rattle.std.specs.Prelude.{if◌then◌else◌}
use Rattle.std.proofs.lemmas.Bool.{cases_Bool, eqb-true}
use Rattle.std.proofs.lemmas.Bool.Decides.{nat_tests}
use Rattle.std.proofs.lemmas.List.Sums.{sum_by-append}
use Rattle.am_limit.specs.Limits.{Count, HasCounted, IsForward, after_asking, after_asking_all, count_in, fresh, has_room, may_take, minute_of, taken_after, used_in}

-- one more moment
one_more : (minute moment : ℕ) (xs : List ℕ) → count_in minute (xs ++ moment ∷ []) ≡ count_in minute xs + cond (minute_of moment == minute) 1 0
one_more minute moment xs =
    sum_by-append (λ (m : ℕ). cond (minute_of m == minute) 1 0) xs (moment ∷ []) ∙ ap (λ (n : ℕ). count_in minute xs + n) (zero-add _)

-- what an allowance holds once it gave one more
abbrev given : Count → ℕ → Count
given a moment = record { limit = a.limit; minute = minute_of moment; used = used_in a (minute_of moment) + 1 }

-- nothing was given in a later minute
none_later : (a : Count) (minute n : ℕ) → a.minute < minute → used_in a minute ≡ n → n ≡ 0
none_later a minute n h e =
    let apart : (a.minute == minute) ≡ false = grind (arith, nat_tests) in
    sym (rw apart at e)

-- nothing was given at first
pub fresh_counted : (limit : ℕ) → HasCounted (fresh limit) []
fresh_counted limit minute h = elim (cases_Bool (0 == minute)) [ inl same ↦ rw same refl | inr other ↦ rw other refl ]

-- the answers agree
pub room_agrees : (a : Count) (taken : List ℕ) (moment : ℕ) → HasCounted a taken → a.minute ≤ minute_of moment → has_room a moment ≡ may_take a.limit taken moment
room_agrees a taken moment h le = ap (λ (n : ℕ). nat_lt n a.limit) (h (minute_of moment) le)

-- and so do the counts, once one more is given
given_counted : (a : Count) (taken : List ℕ) (moment minute : ℕ) → HasCounted a taken → a.minute ≤ minute_of moment → minute_of moment ≤ minute
    → used_in (given a moment) minute ≡ count_in minute (taken ++ moment ∷ [])
given_counted a taken moment minute h le later =
    elim (cases_Bool (minute_of moment == minute)) [
      | inl same ↦
          let e : minute_of moment ≡ minute = eqb-true (minute_of moment) minute same in
          rw (one_more minute moment taken, same) (omega (arith, h (minute_of moment) le, ap (λ (m : ℕ). count_in m taken) e))
      | inr other ↦
          let before : minute_of moment < minute = grind (arith, nat_tests) in
          rw (one_more minute moment taken, other) (omega (arith, none_later a minute (count_in minute taken) (omega arith) (h minute (omega arith))))
    ]

-- whether it is given or not
counted_by : (b : Bool) (a : Count) (taken : List ℕ) (moment : ℕ) → HasCounted a taken → a.minute ≤ minute_of moment
    → HasCounted (if b then given a moment else a) (if b then taken ++ moment ∷ [] else taken)
counted_by true a taken moment h le minute later = given_counted a taken moment minute h le later
counted_by false a taken moment h le minute later = h minute later

pub asked_counted : (a : Count) (taken : List ℕ) (moment : ℕ) → HasCounted a taken → a.minute ≤ minute_of moment → HasCounted (after_asking a moment) (taken_after a.limit taken moment)
asked_counted a taken moment h le =
    subst (λ (b : Bool). HasCounted (after_asking a moment) (if b then taken ++ moment ∷ [] else taken)) (room_agrees a taken moment h le)
    (counted_by (has_room a moment) a taken moment h le)

-- it has counted how often it was asked, up to its limit
abbrev HasAsked : Count → List ℕ → Type 0
HasAsked a moments = (minute : ℕ) → a.minute ≤ minute → used_in a minute ≡ min a.limit (count_in minute moments)

-- once it is asked at one more moment
more_by : (b : Bool) (a : Count) (moments : List ℕ) (moment : ℕ) → b ≡ has_room a moment → HasAsked a moments → a.minute ≤ minute_of moment
    → HasAsked (if b then given a moment else a) (moments ++ moment ∷ [])
more_by true a moments moment room h le minute later =
    let below : used_in a (minute_of moment) < a.limit = grind (arith, nat_tests) in
    elim (cases_Bool (minute_of moment == minute)) [
      | inl same ↦
          let e : minute_of moment ≡ minute = eqb-true (minute_of moment) minute same in
          rw (one_more minute moment moments, same) (omega (arith, h (minute_of moment) le, ap (λ (m : ℕ). count_in m moments) e))
      | inr other ↦
          let before : minute_of moment < minute = grind (arith, nat_tests) in
          rw (one_more minute moment moments, other) (omega (arith, none_later a minute (min a.limit (count_in minute moments)) (omega arith) (h minute (omega arith))))
    ]
more_by false a moments moment room h le minute later =
    let full : a.limit ≤ used_in a (minute_of moment) = grind (arith, nat_tests) in
    elim (cases_Bool (minute_of moment == minute)) [
      | inl same ↦
          let e : minute_of moment ≡ minute = eqb-true (minute_of moment) minute same in
          rw (one_more minute moment moments, same) (omega (arith, h minute later, h (minute_of moment) le, ap (λ (m : ℕ). count_in m moments) e))
      | inr other ↦ rw (one_more minute moment moments, other) (omega (arith, h minute later))
    ]

-- its limit stays
limit_by : (b : Bool) (a : Count) (moment : ℕ) → (if b then given a moment else a).limit ≡ a.limit
limit_by true a moment = refl
limit_by false a moment = refl

-- and its minute is not past the moment's
minute_by : (b : Bool) (a : Count) (moment : ℕ) → a.minute ≤ minute_of moment → (if b then given a moment else a).minute ≤ minute_of moment
minute_by true a moment le = omega arith
minute_by false a moment le = le

-- the answer after all these moments
room_after : (a : Count) (before moments : List ℕ) (from moment : ℕ) → HasAsked a before → a.minute ≤ minute_of from → IsForward from (moments ++ moment ∷ [])
    → has_room (after_asking_all a moments) moment ≡ nat_lt (count_in (minute_of moment) (before ++ moments)) a.limit
room_after a before [] from moment h le forward =
    let used = h (minute_of moment) (omega (arith, forward.0)) in
    rw (used, append-nil before) (grind (arith, nat_tests))
room_after a before (next ∷ later) from moment h le forward =
    let within : a.minute ≤ minute_of next = omega (arith, forward.0) in
    let room = has_room a next in
    let rest = room_after (after_asking a next) (before ++ next ∷ []) later next moment (more_by room a before next refl h within) (minute_by room a next within) forward.1 in
    rest ∙ rw (limit_by room a next, append_assoc before (next ∷ []) later) refl

pub each_minute : (limit : ℕ) (moments : List ℕ) (moment : ℕ) → IsForward 0 (moments ++ moment ∷ []) → has_room (after_asking_all (fresh limit) moments) moment ≡ nat_lt (count_in (minute_of moment) moments) limit
each_minute limit moments moment forward =
    room_after (fresh limit) [] moments 0 moment (λ minute h. fresh_counted limit minute h ∙ omega arith) (omega arith) forward
