-- Which timers are in a list.
use Rattle.std.proofs.Common.{◌≡◌, ℕ, ◌==◌, Bool, true, false, ◌&&◌, ◌||◌, List, [], ◌∷◌, ◌++◌, map, Option, Some, None, Less, ap, refl, sym, ◌∙◌, arith, if◌then◌else◌}
use Rattle.std.specs.List.{AllByRecursion, list_any}
use Rattle.std.specs.List.Sorted.{IsStrictlySortedBy}
use Rattle.std.specs.Ordering.{is_eq, nat_cmp}
use Rattle.std.proofs.lemmas.Bool.{and_parts}
use Rattle.std.proofs.lemmas.Bool.Decides.{nat_tests}
use Rattle.am_agenda.specs.Plan.{in_order}
use Rattle.am_ring.specs.Instances.{is_among}
use Rattle.am_tenant.specs.Names.{same}
use Rattle.am_tenant.proofs.Same.{eq_from_same, same-refl}
use Rattle.am_timer.specs.Tied.{has_timer}
use Rattle.am_timer.specs.Timer.{Key, Timer, timer_cmp}
use Rattle.am_timer.proofs.Orders.{same_timer, timer_itself}
use Rattle.am_timer.proofs.TiedLemmas.{has-insert, rising-insert}
use Rattle.am_transfer.specs.Timers.{is_at}

-- ---- tests

pub same_tests : (a b : Bool) → (a ≡ true → b ≡ true) → (b ≡ true → a ≡ true) → a ≡ b
same_tests true b f g = sym (f refl)
same_tests false true f g = g refl
same_tests false false f g = refl

pub never : (b : Bool) → false ≡ (b && false)
never true = refl
never false = refl

-- ---- lists of timers

pub has-both : (xs ys : List Timer) (q : Timer) → has_timer (xs ++ ys) q ≡ (has_timer xs q || has_timer ys q)
has-both [] ys q = refl
has-both (x ∷ xs) ys q = ap (λ b. is_eq (timer_cmp q x) || b) (has-both xs ys q) ∙ turned (is_eq (timer_cmp q x)) (has_timer xs q) (has_timer ys q)
  where
    turned : (a b c : Bool) → (a || (b || c)) ≡ ((a || b) || c)
    turned true b c = refl
    turned false b c = refl

pub has-ordered : (xs : List Timer) (q : Timer) → has_timer (in_order xs) q ≡ has_timer xs q
has-ordered [] q = refl
has-ordered (x ∷ xs) q = has-insert (in_order xs) x q ∙ ap (λ b. is_eq (timer_cmp q x) || b) (has-ordered xs q)

pub rising-ordered : (xs : List Timer) → IsStrictlySortedBy timer_cmp (in_order xs)
unfolding IsStrictlySortedBy
rising-ordered [] = tt
rising-ordered (x ∷ xs) = rising-insert (in_order xs) x (rising-ordered xs)

-- no timer of the list passes a test that none of those there does
pub none_passes : (p : Timer → Bool) (xs : List Timer) → ((q : Timer) → has_timer xs q ≡ true → p q ≡ false) → list_any p xs ≡ false
none_passes p [] none = refl
none_passes p (x ∷ xs) none =
    let first : p x ≡ false = none x (ap (λ b. b || has_timer xs x) (timer_itself x)) in
    rw first (none_passes p xs (λ q there. none q (later (is_eq (timer_cmp q x)) (has_timer xs q) there)))
  where
    later : (a b : Bool) → b ≡ true → (a || b) ≡ true
    later true b h = refl
    later false b h = h

-- ---- timers of one kind

-- when the one of a number is due
abbrev pub due_among : {E : Type 0} (number due : E → ℕ) → ℕ → List E → Option ℕ
due_among number due n [] = None
due_among number due n (e ∷ es) = if number e == n then Some (due e) else due_among number due n es

module _ (t : List ℕ) (x : Timer) where
  abbrev timer : Key → ℕ → Timer
  timer key due = record { due = due; name = record { tenant = t; key = key } }

  abbrev own : Bool
  own = same t x.name.tenant

  -- the timer is this one
  pub one_timer : (key : Key) (due : ℕ) → x.name.key ≡ key → is_eq (timer_cmp x (timer key due)) ≡ (own && (due == x.due))
  one_timer key due is = same_tests _ _ to from
    where
      equal : (a b : ℕ) → (a == b) ≡ true → a ≡ b
      equal a b h = grind (arith, nat_tests)

      itself : (a : ℕ) → (a == a) ≡ true
      itself a = grind (arith, nat_tests)

      to : is_eq (timer_cmp x (timer key due)) ≡ true → (own && (due == x.due)) ≡ true
      to h =
          let it = same_timer x (timer key due) h in
          rw (ap (λ (y : Timer). same t y.name.tenant) it ∙ same-refl t, ap (λ (y : Timer). due == y.due) it ∙ itself due) refl

      from : (own && (due == x.due)) ≡ true → is_eq (timer_cmp x (timer key due)) ≡ true
      from h =
          let parts = and_parts own (due == x.due) h in
          ap (λ d. is_eq (timer_cmp x (timer key d))) (equal due x.due parts.1)
          ∙ ap (λ k. is_eq (timer_cmp x (timer k x.due))) (sym is)
          ∙ ap (λ s. is_eq (timer_cmp x (record { due = x.due; name = record { tenant = s; key = x.name.key } }))) (eq_from_same t x.name.tenant parts.0)
          ∙ timer_itself x

  -- .. which has another key
  pub other_timer : (key : Key) (due : ℕ) → (x.name.key ≡ key → ⊥) → is_eq (timer_cmp x (timer key due)) ≡ false
  other_timer key due apart = by (is_eq (timer_cmp x (timer key due))) refl
    where
      by : (b : Bool) → is_eq (timer_cmp x (timer key due)) ≡ b → b ≡ false
      by true e = absurd (apart (ap (λ (y : Timer). y.name.key) (same_timer x (timer key due) e)))
      by false e = refl

  module _ {E : Type 0} (number due : E → ℕ) (wrap : ℕ → Key) where
    abbrev timer_of : E → Timer
    timer_of e = timer (wrap (number e)) (due e)

    -- what is of another kind isn't among them
    pub other_kind : (es : List E) → ((n : ℕ) → x.name.key ≡ wrap n → ⊥) → has_timer (map timer_of es) x ≡ false
    other_kind [] apart = refl
    other_kind (e ∷ es) apart = rw (other_timer (wrap (number e)) (due e) (apart (number e))) (other_kind es apart)

    module _ (exact : (a b : ℕ) → wrap a ≡ wrap b → a ≡ b) (n : ℕ) (is : x.name.key ≡ wrap n) where
      itself : nat_cmp n n ≡ Less → ⊥
      itself h = grind (arith, nat_tests, h)

      past : (m : ℕ) → m ≡ n → (es : List E) → AllByRecursion (λ k. nat_cmp m k ≡ Less) (map number es) → has_timer (map timer_of es) x ≡ false
      past m same_number [] above = refl
      past m same_number (e ∷ es) above =
          rw (other_timer (wrap (number e)) (due e) (λ h. itself (ap (λ k. nat_cmp k n) (sym same_number) ∙ ap (λ k. nat_cmp m k) (exact n (number e) (sym is ∙ h)) ∙ above.0)))
          (past m same_number es above.1)

      -- of those in order of number the one of its number tells
      pub numbered : (es : List E) → IsStrictlySortedBy nat_cmp (map number es) → has_timer (map timer_of es) x ≡ (own && is_at (due_among number due n es) x.due)
      unfolding IsStrictlySortedBy
      numbered [] rising = never own
      numbered (e ∷ es) rising = by (number e == n) refl (numbered es rising.1)
        where
          equal : (a b : ℕ) → (a == b) ≡ true → a ≡ b
          equal a b h = grind (arith, nat_tests)

          differ : (a b : ℕ) → (a == b) ≡ false → a ≡ b → ⊥
          differ a b h is = grind (arith, nat_tests, h, is)

          alone : (b : Bool) → (b || false) ≡ b
          alone true = refl
          alone false = refl

          by : (b : Bool) → (number e == n) ≡ b → has_timer (map timer_of es) x ≡ (own && is_at (due_among number due n es) x.due)
              → (is_eq (timer_cmp x (timer_of e)) || has_timer (map timer_of es) x) ≡ (own && is_at (if number e == n then Some (due e) else due_among number due n es) x.due)
          by true h rest =
              let here : number e ≡ n = equal (number e) n h in
              rw (h, past (number e) here es rising.0)
              (alone (is_eq (timer_cmp x (timer_of e))) ∙ one_timer (wrap (number e)) (due e) (is ∙ ap wrap (sym here)))
          by false h rest =
              rw (h, other_timer (wrap (number e)) (due e) (λ k. differ (number e) n h (sym (exact n (number e) (sym is ∙ k))))) rest

  -- .. of those that are due together each tells
  module _ (wrap : ℕ → Key) (exact : (a b : ℕ) → wrap a ≡ wrap b → a ≡ b) (due : ℕ) where
    pub together_other : (is : List ℕ) → ((n : ℕ) → x.name.key ≡ wrap n → ⊥) → has_timer (map (λ i. timer (wrap i) due) is) x ≡ false
    together_other [] apart = refl
    together_other (i ∷ is) apart = rw (other_timer (wrap i) due (apart i)) (together_other is apart)

    pub together : (n : ℕ) → x.name.key ≡ wrap n → (is : List ℕ) → has_timer (map (λ i. timer (wrap i) due) is) x ≡ (own && (is_among n is && (due == x.due)))
    together n key [] = never own
    together n key (i ∷ is) = by (n == i) refl (together n key is)
      where
        equal : (a b : ℕ) → (a == b) ≡ true → a ≡ b
        equal a b h = grind (arith, nat_tests)

        differ : (a b : ℕ) → (a == b) ≡ false → a ≡ b → ⊥
        differ a b h is = grind (arith, nat_tests, h, is)

        once : (a b c : Bool) → ((a && c) || (a && (b && c))) ≡ (a && c)
        once true true true = refl
        once true true false = refl
        once true false true = refl
        once true false false = refl
        once false b c = refl

        by : (b : Bool) → (n == i) ≡ b → has_timer (map (λ i. timer (wrap i) due) is) x ≡ (own && (is_among n is && (due == x.due)))
            → (is_eq (timer_cmp x (timer (wrap i) due)) || has_timer (map (λ i. timer (wrap i) due) is) x) ≡ (own && (((n == i) || is_among n is) && (due == x.due)))
        by true h rest =
            rw (h, rest, one_timer (wrap i) due (key ∙ ap wrap (equal n i h))) (once own (is_among n is) (due == x.due))
        by false h rest = rw (h, other_timer (wrap i) due (λ k. differ n i h (exact n i (sym key ∙ k)))) rest
