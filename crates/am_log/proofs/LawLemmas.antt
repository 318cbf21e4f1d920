-- What a throttle says over all that comes of one tenant.
use Rattle.std.proofs.Common.{◌≡◌, ◌∙◌, ◌≤◌, ◌<◌, ℕ, ◌+◌, ◌-◌, ◌^◌, min, Bool, true, false, List, [], ◌∷◌, None, Some, length, refl, ap, arith}
use Rattle.std.specs.Prelude.{if◌then◌else◌}
use Rattle.std.proofs.lemmas.Bool.Decides.{nat_tests}
use Rattle.std.proofs.lemmas.List.Sums.{sum_by-cons}
use Rattle.am_log.specs.Throttling.{AreApart, AreApartAfter, after_all, after_one, count_in, is_over, is_past, left_out_in, told_at, told_of_all, with_told}
use Rattle.am_log.specs.declared.throttle.Recent.{Recent}

-- what is kept once one is told, and once one is left out
abbrev told_now : ℕ → Recent
told_now moment = record { told = moment; left_out = 0 }

abbrev one_less : Recent → Recent
one_less recent = record { told = recent.told; left_out = min (recent.left_out + 1) 18446744073709551615 }

-- ---- a second apart
apart_by : (b : Bool) (recent : Recent) (moment : ℕ) (later : List ℕ) → b ≡ is_past moment recent
    → AreApartAfter moment (told_of_all (Some (told_now moment)) later)
    → AreApartAfter recent.told (told_of_all (Some (one_less recent)) later)
    → AreApartAfter recent.told (with_told moment (if b then Some recent.left_out else None)
    (told_of_all (Some (if b then told_now moment else one_less recent)) later))
apart_by true recent moment later past told left_out =
    let after : 1000 ≤ moment - recent.told = grind (arith, nat_tests) in
    (omega (arith, after), told)
apart_by false recent moment later past told left_out = left_out

apart_after : (recent : Recent) (moments : List ℕ) → AreApartAfter recent.told (told_of_all (Some recent) moments)
apart_after recent [] = tt
apart_after recent (moment ∷ later) =
    apart_by (is_past moment recent) recent moment later refl (apart_after (told_now moment) later) (apart_after (one_less recent) later)

pub apart : (moments : List ℕ) → AreApart (told_of_all None moments)
apart [] = tt
apart (moment ∷ later) = apart_after (told_now moment) later

-- ---- each is told or left out
abbrev Counts : Recent → List ℕ → Type 0
Counts recent moments = recent.left_out + length moments < 2 ^ 64
    → count_in (told_of_all (Some recent) moments) + left_out_in (after_all (Some recent) moments) ≡ recent.left_out + length moments

one_longer : (moment : ℕ) (later : List ℕ) → length (moment ∷ later) ≡ length later + 1
one_longer moment later = omega arith

one_told : (moment left_out : ℕ) (told : List (ℕ × ℕ)) → count_in (with_told moment (Some left_out) told) ≡ count_in told + (left_out + 1)
one_told moment left_out told =
    let first = sum_by-cons (λ (one : ℕ × ℕ). one.1 + 1) (moment, left_out) told in
    omega (arith, first)

-- the sums, once one is told and once one is left out
told_adds : (all told left before count longer : ℕ) → all ≡ told + (before + 1) → longer ≡ count + 1 → told + left ≡ 0 + count
    → all + left ≡ before + longer
told_adds all told left before count longer one more rest = omega arith

left_adds : (told left before after count longer : ℕ) → after ≡ before + 1 → longer ≡ count + 1 → told + left ≡ after + count
    → told + left ≡ before + longer
left_adds told left before after count longer one more rest = omega arith

counted_by : (b : Bool) (recent : Recent) (moment : ℕ) (later : List ℕ) → recent.left_out + length (moment ∷ later) < 2 ^ 64
    → Counts (told_now moment) later → Counts (one_less recent) later
    → count_in (with_told moment (if b then Some recent.left_out else None) (told_of_all (Some (if b then told_now moment else one_less recent)) later))
    + left_out_in (after_all (Some (if b then told_now moment else one_less recent)) later)
    ≡ recent.left_out + length (moment ∷ later)
counted_by true recent moment later few told left_out =
    let longer = one_longer moment later in
    let rest = told_of_all (Some (told_now moment)) later in
    told_adds (count_in (with_told moment (Some recent.left_out) rest)) (count_in rest) (left_out_in (after_all (Some (told_now moment)) later))
    recent.left_out (length later) (length (moment ∷ later)) (one_told moment recent.left_out rest) longer (told (omega (arith, few, longer)))
counted_by false recent moment later few told left_out =
    let longer = one_longer moment later in
    let more : min (recent.left_out + 1) 18446744073709551615 ≡ recent.left_out + 1 = omega (arith, few, longer) in
    left_adds (count_in (told_of_all (Some (one_less recent)) later)) (left_out_in (after_all (Some (one_less recent)) later))
    recent.left_out (min (recent.left_out + 1) 18446744073709551615) (length later) (length (moment ∷ later)) more longer
    (left_out (omega (arith, few, longer, more)))

counted_after : (recent : Recent) (moments : List ℕ) → Counts recent moments
counted_after recent [] few = omega arith
counted_after recent (moment ∷ later) few =
    counted_by (is_past moment recent) recent moment later few (counted_after (told_now moment) later) (counted_after (one_less recent) later)

pub counted : (moments : List ℕ) → length moments < 2 ^ 64
    → count_in (told_of_all None moments) + left_out_in (after_all None moments) ≡ length moments
counted [] few = refl
counted (moment ∷ later) few =
    let longer = one_longer moment later in
    let rest = told_of_all (Some (told_now moment)) later in
    told_adds (count_in (with_told moment (Some 0) rest)) (count_in rest) (left_out_in (after_all (Some (told_now moment)) later))
    0 (length later) (length (moment ∷ later)) (one_told moment 0 rest) longer (counted_after (told_now moment) later (omega (arith, few, longer)))
    ∙ omega arith

-- ---- forgetting
past_later : (recent : Recent) (moment later : ℕ) → is_over moment recent ≡ true → moment ≤ later
    → (is_past later recent ≡ true) × (recent.left_out ≡ 0)
past_later recent moment later over le = grind (arith, nat_tests)

pub forgotten_told : (recent : Recent) (moment later : ℕ) → is_over moment recent ≡ true → moment ≤ later
    → told_at later (Some recent) ≡ told_at later None
forgotten_told recent moment later over le =
    let past = past_later recent moment later over le in
    rw (past.0) (ap (λ (n : ℕ). Some n) (past.1))

pub forgotten_kept : (recent : Recent) (moment later : ℕ) → is_over moment recent ≡ true → moment ≤ later
    → after_one later (Some recent) ≡ after_one later None
forgotten_kept recent moment later over le = rw ((past_later recent moment later over le).0) refl
