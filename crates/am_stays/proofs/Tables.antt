-- Tests, places and tables.
use Rattle.std.proofs.Common.{◌≡◌, ℕ, suc, ◌<◌, ◌≤◌, max, Bool, true, false, not, ◌&&◌, ◌||◌, if◌then◌else◌, ◌⊎◌, inl, inr, refl, subst, arith}
use Rattle.std.specs.Prelude.{nat_lt, ◌==◌}
use Rattle.std.proofs.lemmas.Bool.Decides.{nat_tests}
use Rattle.am_stays.specs.Places.{Place, First, Second, Third, same}
use Rattle.am_stays.proofs.Phases.{next, last}
use Rattle.am_stays.proofs.Machine.{grown, grown_old, acks, says}

pub and_left : (a b : Bool) → (a && b) ≡ true → a ≡ true
and_left true b e = refl
and_left false b e = e

pub and_right : (a b : Bool) → (a && b) ≡ true → b ≡ true
and_right true b e = e
and_right false b e = cc

pub or_cases : (a b : Bool) → (a || b) ≡ true → (a ≡ true) ⊎ (b ≡ true)
or_cases true b e = inl refl
or_cases false b e = inr e

pub or_left : (a b : Bool) → a ≡ true → (a || b) ≡ true
or_left true b e = refl
or_left false b e = cc

pub or_right : (a b : Bool) → b ≡ true → (a || b) ≡ true
or_right true b e = refl
or_right false b e = e

pub not_true : (a : Bool) → not a ≡ true → a ≡ false
not_true true e = cc
not_true false e = refl

pub apart : {G : Type 0} (a : Bool) → a ≡ true → a ≡ false → G
apart true e f = cc
apart false e f = cc

pub decide : (a : Bool) → (a ≡ true) ⊎ (a ≡ false)
decide true = inl refl
decide false = inr refl

pub same_is : (i j : Place) → same i j ≡ true → i ≡ j
same_is First First e = refl
same_is Second Second e = refl
same_is Third Third e = refl
same_is First Second e = cc
same_is _ _ e = cc

pub same_refl : (i : Place) → same i i ≡ true
same_refl First = refl
same_refl Second = refl
same_refl Third = refl

pub same_sym : (i j : Place) → same i j ≡ same j i
same_sym First First = refl
same_sym First Second = refl
same_sym First Third = refl
same_sym Second First = refl
same_sym Second Second = refl
same_sym Second Third = refl
same_sym Third First = refl
same_sym Third Second = refl
same_sym Third Third = refl

pub eq_is : (m n : ℕ) → (m == n) ≡ true → m ≡ n
eq_is m n e = grind (arith, nat_tests, e)

pub eq_refl : (n : ℕ) → (n == n) ≡ true
eq_refl n = grind (arith, nat_tests)

pub eq_true : (m n : ℕ) → m ≡ n → (m == n) ≡ true
eq_true m n e = grind (arith, nat_tests, e)

pub lt_is : (m n : ℕ) → nat_lt m n ≡ true → m < n
lt_is m n e = grind (arith, nat_tests, e)

pub pick_le : (c : Bool) (a b y : ℕ) → y ≤ a → y ≤ b → y ≤ (if c then a else b)
pick_le true a b y h k = h
pick_le false a b y h k = k

pub grown-more : (t : Bool) (i : Place) (x : ℕ) (best : Place → ℕ) (j : Place) (y : ℕ) → y ≤ best j → y ≤ grown t i x best j
grown-more t i x best j y h = pick_le (t && same j i) (max (best j) x) (best j) y (omega arith) h

pub grown_old-more : (t : Bool) (g x : ℕ) (old : ℕ → ℕ) (h y : ℕ) → y ≤ old h → y ≤ grown_old t g x old h
grown_old-more t g x old h y k = pick_le (t && (h == g)) (max (old h) x) (old h) y (omega arith) k

pub grown-has : (t : Bool) (i : Place) (x : ℕ) (best : Place → ℕ) → t ≡ true → x ≤ grown t i x best i
grown-has true First x best e = omega arith
grown-has true _ x best e = omega arith
grown-has false i x best e = cc

pub grown_old-has : (t : Bool) (g x : ℕ) (old : ℕ → ℕ) → t ≡ true → x ≤ grown_old t g x old g
grown_old-has true g x old e = rw (eq_refl g) (omega arith)
grown_old-has false g x old e = cc

pub or_false_right : (a b : Bool) → (a || b) ≡ false → b ≡ false
or_false_right true b e = cc
or_false_right false b e = e

pub if_ℕ : (c : Bool) (a b y : ℕ) → (if c then a else b) ≡ y → ((c ≡ true) × (a ≡ y)) ⊎ ((c ≡ false) × (b ≡ y))
if_ℕ true a b y e = inl (refl, e)
if_ℕ false a b y e = inr (refl, e)

pub if_Bool : (c a b : Bool) → (if c then a else b) ≡ true → ((c ≡ true) × (a ≡ true)) ⊎ ((c ≡ false) × (b ≡ true))
if_Bool true a b e = inl (refl, e)
if_Bool false a b e = inr (refl, e)

pub pick_upper : (c : Bool) (a b y : ℕ) → a ≤ y → b ≤ y → (if c then a else b) ≤ y
pick_upper true a b y h k = h
pick_upper false a b y h k = k

-- a new entry of a table, or an old one
pub mark_cases : (t : Bool) (x y : ℕ) (b : Bool) → ((t && (y == x)) || b) ≡ true → ((t ≡ true) × (y ≡ x)) ⊎ (b ≡ true)
mark_cases t x y b e =
    elim (or_cases (t && (y == x)) b e) [
      | inl a ↦ inl (and_left t (y == x) a, eq_is y x (and_right t (y == x) a))
      | inr a ↦ inr a
    ]

pub cut_cases : (t : Bool) (i : Place) (e : ℕ) (j : Place) (f : ℕ) (b : Bool) → ((t && (same j i && (f == e))) || b) ≡ true → ((t ≡ true) × (j ≡ i) × (f ≡ e)) ⊎ (b ≡ true)
cut_cases t i e j f b h =
    elim (or_cases (t && (same j i && (f == e))) b h) [
      | inl a ↦
          let c = and_right t (same j i && (f == e)) a in
          inl (and_left t (same j i && (f == e)) a, same_is j i (and_left (same j i) (f == e) c), eq_is f e (and_right (same j i) (f == e) c))
      | inr a ↦ inr a
    ]

pub says_cases : (t : Bool) (n : ℕ) (i : Place) (v : ℕ) (answer : ℕ → Place → ℕ → Bool) (m : ℕ) (j : Place) (u : ℕ) → says t n i v answer m j u ≡ true → (answer m j u ≡ true) ⊎ ((t ≡ true) × (m ≡ n) × (j ≡ i) × (u ≡ v))
says_cases t n i v answer m j u e =
    elim (or_cases (t && ((m == n) && (same j i && (u == v)))) (answer m j u) e) [
      | inr a ↦ inl a
      | inl b ↦
          let c = and_right t ((m == n) && (same j i && (u == v))) b in
          let d = and_right (m == n) (same j i && (u == v)) c in
          inr (and_left t ((m == n) && (same j i && (u == v))) b, eq_is m n (and_left (m == n) (same j i && (u == v)) c), same_is j i (and_left (same j i) (u == v) d), eq_is u v (and_right (same j i) (u == v) d))
    ]

pub acks_cases : (t : Bool) (x : ℕ) (i : Place) (ack : ℕ → Place → Bool) (y : ℕ) (j : Place) → acks t x i ack y j ≡ true → (ack y j ≡ true) ⊎ ((t ≡ true) × (y ≡ x) × (j ≡ i))
acks_cases t x i ack y j e =
    elim (or_cases (t && ((y == x) && same j i)) (ack y j) e) [
      | inr a ↦ inl a
      | inl b ↦
          let c = and_right t ((y == x) && same j i) b in
          inr (and_left t ((y == x) && same j i) b, eq_is y x (and_left (y == x) (same j i) c), same_is j i (and_right (y == x) (same j i) c))
    ]

-- a place is this one, the next or the last
pub three : (P : Place → Type 0) (r j : Place) → P r → P (next r) → P (last r) → P j
three P First First a b c = a
three P First Second a b c = b
three P First Third a b c = c
three P Second First a b c = c
three P Second Second a b c = a
three P Second Third a b c = b
three P Third First a b c = b
three P Third Second a b c = c
three P Third Third a b c = a

pub zeroed : (c : Bool) (b x : ℕ) → c ≡ false → x ≤ b → x ≤ (if c then 0 else b)
zeroed true b x e h = cc
zeroed false b x e h = h

pub pick_cut : (c old : Bool) (a b x : ℕ) → x ≤ a → (old ≡ true → x ≤ b) → (c || old) ≡ true → x ≤ (if c then a else b)
pick_cut true old a b x h k e = h
pick_cut false old a b x h k e = k e

pub if_true : {A : Type 0} (c : Bool) (a b : A) → c ≡ true → (if c then a else b) ≡ a
if_true true a b e = refl
if_true false a b e = cc

pub if_false : {A : Type 0} (c : Bool) (a b : A) → c ≡ false → (if c then a else b) ≡ b
if_false true a b e = cc
if_false false a b e = refl

-- of the two other than s, one isn't q
pub two_places : (s q : Place) → (same (next s) q ≡ false) ⊎ (same (last s) q ≡ false)
two_places First First = inl refl
two_places First Second = inr refl
two_places First Third = inl refl
two_places Second First = inl refl
two_places Second Second = inl refl
two_places Second Third = inr refl
two_places Third First = inr refl
two_places Third Second = inl refl
two_places Third Third = inl refl

pub not_eq : (m n : ℕ) → m < n → (m == n) ≡ false
not_eq m n h = elim (decide (m == n)) [ inl a ↦ absurd (omega (arith, eq_is m n a)) | inr a ↦ a ]

pub less : (a b : ℕ) → a ≤ b → (suc a == suc b) ≡ false → a < b
less a b h e =
    let choice : (a ≡ b) ⊎ (a < b) = grind arith in
    elim choice [ inl z ↦ apart (suc a == suc b) (eq_true (suc a) (suc b) (omega (arith, z))) e | inr z ↦ z ]

-- what is dropped at retirement was not above what is gone then
pub retired-kept : (t : Bool) (i : Place) (best : Place → ℕ) (x : ℕ) (j : Place) → (t ≡ true → best i < x) → x ≤ best j → x ≤ (if t && same j i then 0 else best j)
retired-kept false i best x j l h = h
retired-kept true i best x j l h =
    elim (decide (same j i)) [
      | inl a ↦
          let z : x ≤ best i = subst (λ q. x ≤ best q) (same_is j i a) h in
          absurd (omega (arith, l refl, z))
      | inr a ↦ zeroed (same j i) (best j) x a h
    ]

pub retired_old-kept : (t : Bool) (g : ℕ) (old : ℕ → ℕ) (x h : ℕ) → (t ≡ true → old g < x) → x ≤ old h → x ≤ (if t && (h == g) then 0 else old h)
retired_old-kept false g old x h l k = k
retired_old-kept true g old x h l k =
    elim (decide (h == g)) [
      | inl a ↦
          let z : x ≤ old g = subst (λ q. x ≤ old q) (eq_is h g a) k in
          absurd (omega (arith, l refl, z))
      | inr a ↦ zeroed (h == g) (old h) x a k
    ]

pub gone-above : (t : Bool) (outlived b x : ℕ) → (if t then max outlived b else outlived) < x → t ≡ true → b < x
gone-above true outlived b x l e = omega arith
gone-above false outlived b x l e = cc

pub and_both : (a b : Bool) → a ≡ true → b ≡ true → (a && b) ≡ true
and_both true b e f = f
and_both false b e f = e

pub gone-less : (t : Bool) (outlived b x : ℕ) → (if t then max outlived b else outlived) < x → outlived < x
gone-less true outlived b x l = omega arith
gone-less false outlived b x l = l

-- two places apart from the same two are one
pub others_same : (i j k l : Place) → same i j ≡ false → same k i ≡ false → same k j ≡ false → same l i ≡ false → same l j ≡ false → k ≡ l
others_same First First k l p q r s t = cc
others_same First Second First l p q r s t = cc
others_same First Second Second l p q r s t = cc
others_same First Second Third First p q r s t = cc
others_same First Second Third Second p q r s t = cc
others_same First Second Third Third p q r s t = refl
others_same First Third First l p q r s t = cc
others_same First Third Second First p q r s t = cc
others_same First Third Second Second p q r s t = refl
others_same First Third Second Third p q r s t = cc
others_same First Third Third l p q r s t = cc
others_same Second First First l p q r s t = cc
others_same Second First Second l p q r s t = cc
others_same Second First Third First p q r s t = cc
others_same Second First Third Second p q r s t = cc
others_same Second First Third Third p q r s t = refl
others_same Second Second k l p q r s t = cc
others_same Second Third First First p q r s t = refl
others_same Second Third First Second p q r s t = cc
others_same Second Third First Third p q r s t = cc
others_same Second Third Second l p q r s t = cc
others_same Second Third Third l p q r s t = cc
others_same Third First First l p q r s t = cc
others_same Third First Second First p q r s t = cc
others_same Third First Second Second p q r s t = refl
others_same Third First Second Third p q r s t = cc
others_same Third First Third l p q r s t = cc
others_same Third Second First First p q r s t = refl
others_same Third Second First Second p q r s t = cc
others_same Third Second First Third p q r s t = cc
others_same Third Second Second l p q r s t = cc
others_same Third Second Third l p q r s t = cc
others_same Third Third k l p q r s t = cc

pub and_false : (a b : Bool) → b ≡ false → (a && b) ≡ false
and_false true b h = h
and_false false b h = refl

pub differ : (m n : ℕ) → (m ≡ n → ⊥) → (m == n) ≡ false
differ m n h = elim (decide (m == n)) [ inl c ↦ absurd (h (eq_is m n c)) | inr c ↦ c ]

pub greater : (m n : ℕ) → n < m → (m == n) ≡ false
greater m n h = elim (decide (m == n)) [ inl a ↦ absurd (omega (arith, eq_is m n a, h)) | inr a ↦ a ]
