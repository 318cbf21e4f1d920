-- The maps of a desk go together after each change.
use Rattle.std.proofs.Common.{◌≡◌, ◌≤◌, ℕ, Bool, true, false, ◌==◌, ◌+◌, not, cond, List, [], ◌∷◌, Option, Some, None, refl, sym, ap, ◌∙◌, subst, arith, find}
use Rattle.std.specs.Cmp.{Equal-is}
use Rattle.std.specs.List.Sorted.{IsStrictlySortedBy}
use Rattle.std.specs.Map.{keys_of}
use Rattle.std.specs.Option.{option_map}
use Rattle.std.specs.Ordering.{is_eq, nat_cmp}
use Rattle.std.proofs.lemmas.Cmp.{tied_itself}
use Rattle.am_item.specs.EntryKey.{entry_cmp, entry_total}
use Rattle.am_item.specs.declared.entry.EntryKey.{EntryKey}
use Rattle.am_item.proofs.Order.{entries_exact}
use Rattle.am_outlet.specs.declared.attempt.Attempt.{Attempt}
use Rattle.am_outlet.specs.Attempts.{AreTries, IsKept, attempt_at, has_key, number_in, number_with, tried, without_key, without_number}
use Rattle.am_outlet.proofs.Lists.{agree, all_left, eq_numbers, find_agree, nothing_found, number_found, number_itself, same_number}

-- the key of an attempt
abbrev key_of : Attempt → EntryKey
key_of a = a.notice.key

eq_keys : (k q : EntryKey) → is_eq (entry_cmp k q) ≡ true → k ≡ q
eq_keys k q h = entries_exact k q ((Equal-is (entry_cmp k q)).0 h)

key_itself : (k : EntryKey) → is_eq (entry_cmp k k) ≡ true
key_itself k = ap is_eq (tied_itself entry_total k)

-- a test that fails where it can't hold
fails : (b : Bool) → (b ≡ true → ⊥) → b ≡ false
fails true h = absurd (h refl)
fails false h = refl

-- a look-up after something was taken out, and after something came
at_other : {X : Type 0} (b : Bool) (was : Option X) (x : X) → cond b None was ≡ Some x → (b ≡ false) × (was ≡ Some x)
at_other true was x h = absurd (cc)
at_other false was x h = (refl, h)

clash : {X : Type 0} (o : Option X) (x : X) → o ≡ None → o ≡ Some x → ⊥
clash o x none some = cc

-- ---- what a key says

module _ (used : ℕ) (es : List (ℕ × Attempt)) (numbers : List (EntryKey × ℕ)) (kept : IsKept used es numbers) (key : EntryKey) where
  -- the attempt of a number has the key that the number is told of
  has_its_key : (n : ℕ) (a : Attempt) → number_in numbers key ≡ Some n → attempt_at n es ≡ Some a → key_of a ≡ key
  has_its_key n a told at = some_same (sym (ap (option_map key_of) at) ∙ kept.there key n told)
    where
      some_same : Some (key_of a) ≡ Some key → key_of a ≡ key
      some_same h = cc

  -- by its number or by its key: the same attempt
  tests_agree : (n : ℕ) → number_in numbers key ≡ Some n → (m : ℕ) (a : Attempt) → attempt_at m es ≡ Some a → has_key key a ≡ (n == m)
  tests_agree n told m a at = by_cases (n == m) refl
    where
      one_number : number_in numbers key ≡ Some m → n ≡ m
      one_number h = same (sym told ∙ h)
        where
          same : Some n ≡ Some m → n ≡ m
          same e = cc

      by_cases : (b : Bool) → (n == m) ≡ b → has_key key a ≡ b
      by_cases true h =
          let same : n ≡ m = eq_numbers n m (same_number n m ∙ h) in
          ap (λ (k : EntryKey). is_eq (entry_cmp key k)) (has_its_key n a told (ap (λ k. attempt_at k es) same ∙ at)) ∙ key_itself key
      by_cases false h = fails (has_key key a) (λ e.
          let same = one_number (ap (number_in numbers) (eq_keys key (key_of a) e) ∙ kept.told m a at) in
          no (sym h ∙ (sym (same_number n m) ∙ ap (λ k. is_eq (nat_cmp n k)) (sym same) ∙ number_itself n)))
        where
          no : false ≡ true → ⊥
          no e = cc

  untold : number_in numbers key ≡ None → (m : ℕ) (a : Attempt) → attempt_at m es ≡ Some a → has_key key a ≡ false
  untold none m a at = fails (has_key key a) (λ e. clash (number_in numbers key) m none (ap (number_in numbers) (eq_keys key (key_of a) e) ∙ kept.told m a at))

  pub without_told : (n : ℕ) → number_in numbers key ≡ Some n → without_key key es ≡ without_number n es
  without_told n told = agree (λ p. not (has_key key p.1)) (λ p. not (n == p.0)) es kept.rising (λ m a at. ap not (tests_agree n told m a at))

  pub without_untold : number_in numbers key ≡ None → without_key key es ≡ es
  without_untold none = agree (λ p. not (has_key key p.1)) (λ p. true) es kept.rising (λ m a at. ap not (untold none m a at)) ∙ all_left es

  pub number_told : number_in numbers key ≡ number_with key es
  number_told = by_cases (number_in numbers key) refl
    where
      attempt_of : (n : ℕ) (o : Option Attempt) → attempt_at n es ≡ o → option_map key_of o ≡ Some key → option_map (λ p. p.0) (find (λ p. n == p.0) es) ≡ Some n
      attempt_of n None at h = absurd (cc)
      attempt_of n (Some a) at h = number_found n a es at

      by_cases : (o : Option ℕ) → number_in numbers key ≡ o → o ≡ number_with key es
      by_cases None e =
          sym (ap (option_map (λ (p : ℕ × Attempt). p.0)) (find_agree (λ p. has_key key p.1) (λ p. false) es kept.rising (untold e) ∙ nothing_found es))
      by_cases (Some n) e =
          sym (ap (option_map (λ (p : ℕ × Attempt). p.0)) (find_agree (λ p. has_key key p.1) (λ p. n == p.0) es kept.rising (tests_agree n e))
          ∙ attempt_of n (attempt_at n es) refl (kept.there key n e))

-- no attempt has a key once those of the key are gone
pub gone : (key : EntryKey) (es : List (ℕ × Attempt)) → number_with key (without_key key es) ≡ None
gone key [] = refl
gone key (e ∷ es) = by_cases (has_key key e.1) refl (gone key es)
  where
    by_cases : (b : Bool) → has_key key e.1 ≡ b → number_with key (without_key key es) ≡ None → number_with key (without_key key (e ∷ es)) ≡ None
    by_cases true h rest = rw h rest
    by_cases false h rest = rw h (rw h rest)

-- ---- after a change

module _ (used : ℕ) (es new : List (ℕ × Attempt)) (numbers after : List (EntryKey × ℕ)) (kept : IsKept used es numbers) (rising : IsStrictlySortedBy nat_cmp (keys_of new)) (n : ℕ) (a : Attempt) where
  -- an attempt went
  pub kept_gone : attempt_at n es ≡ Some a → ((q : ℕ) → attempt_at q new ≡ cond (is_eq (nat_cmp n q)) None (attempt_at q es))
      → ((k : EntryKey) → number_in after k ≡ cond (is_eq (entry_cmp (key_of a) k)) None (number_in numbers k)) → IsKept used new after
  kept_gone at left told = record {
    rising = rising;
    past = λ m b h. kept.past m b (at_other (is_eq (nat_cmp n m)) (attempt_at m es) b (sym (left m) ∙ h)).1;
    tries = λ m b h. kept.tries m b (at_other (is_eq (nat_cmp n m)) (attempt_at m es) b (sym (left m) ∙ h)).1;
    told = λ m b h.
        let there = at_other (is_eq (nat_cmp n m)) (attempt_at m es) b (sym (left m) ∙ h) in
        let was = kept.told m b there.1 in
        let other = fails (is_eq (entry_cmp (key_of a) (key_of b))) (λ e.
        let same : Some n ≡ Some m = sym (kept.told n a at) ∙ ap (number_in numbers) (eq_keys (key_of a) (key_of b) e) ∙ was in
        not_itself m there.0 same) in
        told (key_of b) ∙ ap (λ x. cond x None (number_in numbers (key_of b))) other ∙ was;
    there = λ k m h.
        let was = at_other (is_eq (entry_cmp (key_of a) k)) (number_in numbers k) m (sym (told k) ∙ h) in
        let other = fails (is_eq (nat_cmp n m)) (λ e.
        let its : Some (key_of a) ≡ Some k = sym (ap (option_map key_of) at) ∙ ap (λ q. option_map key_of (attempt_at q es)) (eq_numbers n m e) ∙ kept.there k m was.1 in
        not_its_key k was.0 its) in
        ap (option_map key_of) (left m ∙ ap (λ x. cond x None (attempt_at m es)) other) ∙ kept.there k m was.1;
  }
    where
      not_itself : (m : ℕ) → is_eq (nat_cmp n m) ≡ false → Some n ≡ Some m → ⊥
      not_itself m h e =
          let same : n ≡ m = cc in
          let both : true ≡ false = sym (number_itself n) ∙ ap (λ q. is_eq (nat_cmp n q)) same ∙ h in
          cc

      not_its_key : (k : EntryKey) → is_eq (entry_cmp (key_of a) k) ≡ false → Some (key_of a) ≡ Some k → ⊥
      not_its_key k h e =
          let same : key_of a ≡ k = cc in
          let both : true ≡ false = sym (key_itself (key_of a)) ∙ ap (λ q. is_eq (entry_cmp (key_of a) q)) same ∙ h in
          cc

  -- an attempt was tried again, or waits for that
  pub kept_tried : (tries : ℕ) (again : Option ℕ) → AreTries tries again → attempt_at n es ≡ Some a → ((q : ℕ) → attempt_at q new ≡ cond (is_eq (nat_cmp n q)) (Some (tried tries again a)) (attempt_at q es)) → IsKept used new numbers
  kept_tried tries again are at left = record {
    rising = rising;
    past = λ m b h. (either m b h).0;
    told = λ m b h. (either m b h).1;
    tries = λ m b h. (either m b h).2;
    there = λ k m h. ap (option_map key_of) (left m) ∙ same_key m (is_eq (nat_cmp n m)) refl ∙ kept.there k m h;
  }
    where
      same_key : (m : ℕ) (x : Bool) → is_eq (nat_cmp n m) ≡ x → option_map key_of (cond x (Some (tried tries again a)) (attempt_at m es)) ≡ option_map key_of (attempt_at m es)
      same_key m true e = sym (ap (option_map key_of) (ap (λ q. attempt_at q es) (sym (eq_numbers n m e)) ∙ at))
      same_key m false e = refl

      by_test : (m : ℕ) (b : Attempt) (x : Bool) → is_eq (nat_cmp n m) ≡ x → cond x (Some (tried tries again a)) (attempt_at m es) ≡ Some b → (m ≤ used) × (number_in numbers (key_of b) ≡ Some m) × AreTries b.tries b.again
      by_test m b true e h =
          let one : tried tries again a ≡ b = cc in
          let here : attempt_at m es ≡ Some a = ap (λ q. attempt_at q es) (sym (eq_numbers n m e)) ∙ at in
          (kept.past m a here, ap (λ (x : Attempt). number_in numbers (key_of x)) (sym one) ∙ kept.told m a here, subst (λ (x : Attempt). AreTries x.tries x.again) one are)
      by_test m b false e h = (kept.past m b h, kept.told m b h, kept.tries m b h)

      either : (m : ℕ) (b : Attempt) → attempt_at m new ≡ Some b → (m ≤ used) × (number_in numbers (key_of b) ≡ Some m) × AreTries b.tries b.again
      either m b h = by_test m b (is_eq (nat_cmp n m)) refl (sym (left m) ∙ h)

  -- an attempt came, of a key that had none
  pub kept_more : n ≡ used + 1 → AreTries a.tries a.again → number_in numbers (key_of a) ≡ None → ((q : ℕ) → attempt_at q new ≡ cond (is_eq (nat_cmp n q)) (Some a) (attempt_at q es))
      → ((k : EntryKey) → number_in after k ≡ cond (is_eq (entry_cmp (key_of a) k)) (Some n) (number_in numbers k)) → IsKept n new after
  kept_more next are none left told = record {
    rising = rising;
    past = λ m b h. (either m b h).0;
    told = λ m b h. (either m b h).1;
    tries = λ m b h. (either m b h).2;
    there = λ k m h. by_key k m (is_eq (entry_cmp (key_of a) k)) refl (sym (told k) ∙ h);
  }
    where
      by_test : (m : ℕ) (b : Attempt) (x : Bool) → is_eq (nat_cmp n m) ≡ x → cond x (Some a) (attempt_at m es) ≡ Some b → (m ≤ n) × (number_in after (key_of b) ≡ Some m) × AreTries b.tries b.again
      by_test m b true e h =
          let one : a ≡ b = cc in
          let same : n ≡ m = eq_numbers n m e in (
            omega arith,
            ap (λ (x : Attempt). number_in after (key_of x)) (sym one) ∙ told (key_of a) ∙ ap (λ x. cond x (Some n) (number_in numbers (key_of a))) (key_itself (key_of a)) ∙ ap Some same,
            subst (λ (x : Attempt). AreTries x.tries x.again) one are,
          )
      by_test m b false e h =
          let below = kept.past m b h in
          let was = kept.told m b h in
          let other = fails (is_eq (entry_cmp (key_of a) (key_of b))) (λ q. clash (number_in numbers (key_of a)) m none (ap (number_in numbers) (eq_keys (key_of a) (key_of b) q) ∙ was)) in
          (omega arith, told (key_of b) ∙ ap (λ x. cond x (Some n) (number_in numbers (key_of b))) other ∙ was, kept.tries m b h)

      either : (m : ℕ) (b : Attempt) → attempt_at m new ≡ Some b → (m ≤ n) × (number_in after (key_of b) ≡ Some m) × AreTries b.tries b.again
      either m b h = by_test m b (is_eq (nat_cmp n m)) refl (sym (left m) ∙ h)

      key_of_number : (k : EntryKey) (m : ℕ) (o : Option Attempt) → attempt_at m es ≡ o → option_map key_of o ≡ Some k → option_map key_of (attempt_at m new) ≡ Some k
      key_of_number k m None at h = absurd (cc)
      key_of_number k m (Some b) at h =
          let below = kept.past m b at in
          let other = fails (is_eq (nat_cmp n m)) (λ e. apart below (eq_numbers n m e)) in
          ap (option_map key_of) (left m ∙ ap (λ x. cond x (Some a) (attempt_at m es)) other ∙ at) ∙ h
        where
          apart : m ≤ used → n ≡ m → ⊥
          apart below e = omega arith

      by_key : (k : EntryKey) (m : ℕ) (x : Bool) → is_eq (entry_cmp (key_of a) k) ≡ x → cond x (Some n) (number_in numbers k) ≡ Some m → option_map key_of (attempt_at m new) ≡ Some k
      by_key k m true e h =
          let same : n ≡ m = cc in
          ap (λ q. option_map key_of (attempt_at q new)) (sym same)
          ∙ ap (option_map key_of) (left n ∙ ap (λ x. cond x (Some a) (attempt_at n es)) (number_itself n)) ∙ ap Some (eq_keys (key_of a) k e)
      by_key k m false e h = key_of_number k m (attempt_at m es) refl (kept.there k m h)

-- nothing changed that a look-up finds
pub kept_same : (used : ℕ) (es new : List (ℕ × Attempt)) (numbers after : List (EntryKey × ℕ)) → IsKept used es numbers → IsStrictlySortedBy nat_cmp (keys_of new)
    → ((q : ℕ) → attempt_at q new ≡ attempt_at q es) → ((k : EntryKey) → number_in after k ≡ number_in numbers k) → IsKept used new after
kept_same used es new numbers after kept rising same told = record {
  rising = rising;
  past = λ m b h. kept.past m b (sym (same m) ∙ h);
  told = λ m b h. told (key_of b) ∙ kept.told m b (sym (same m) ∙ h);
  there = λ k m h. ap (option_map key_of) (same m) ∙ kept.there k m (sym (told k) ∙ h);
  tries = λ m b h. kept.tries m b (sym (same m) ∙ h);
}

-- the tries of an attempt changed, if it is there
pub kept_changed : (used : ℕ) (es new : List (ℕ × Attempt)) (numbers : List (EntryKey × ℕ)) → IsKept used es numbers → IsStrictlySortedBy nat_cmp (keys_of new) → (n tries : ℕ) (again : Option ℕ) → AreTries tries again
    → ((q : ℕ) → attempt_at q new ≡ cond (is_eq (nat_cmp n q)) (option_map (tried tries again) (attempt_at n es)) (attempt_at q es)) → IsKept used new numbers
kept_changed used es new numbers kept rising n tries again are left = by_cases (attempt_at n es) refl
  where
    unchanged : attempt_at n es ≡ None → (q : ℕ) (b : Bool) → is_eq (nat_cmp n q) ≡ b → cond b None (attempt_at q es) ≡ attempt_at q es
    unchanged none q true e = sym (ap (λ m. attempt_at m es) (sym (eq_numbers n q e)) ∙ none)
    unchanged none q false e = refl

    by_cases : (o : Option Attempt) → attempt_at n es ≡ o → IsKept used new numbers
    by_cases None e =
        kept_same used es new numbers numbers kept rising
        (λ q. left q ∙ ap (λ (o : Option Attempt). cond (is_eq (nat_cmp n q)) (option_map (tried tries again) o) (attempt_at q es)) e ∙ unchanged e q (is_eq (nat_cmp n q)) refl) (λ k. refl)
    by_cases (Some a) e =
        kept_tried used es new numbers numbers kept rising n a tries again are e
        (λ q. left q ∙ ap (λ (o : Option Attempt). cond (is_eq (nat_cmp n q)) (option_map (tried tries again) o) (attempt_at q es)) e)

-- a number was told of a key that has none, and told no more
pub told_back : (numbers told after : List (EntryKey × ℕ)) (key : EntryKey) (n : ℕ) → number_in numbers key ≡ None → ((k : EntryKey) → number_in told k ≡ cond (is_eq (entry_cmp key k)) (Some n) (number_in numbers k))
    → ((k : EntryKey) → number_in after k ≡ cond (is_eq (entry_cmp key k)) None (number_in told k)) → (k : EntryKey) → number_in after k ≡ number_in numbers k
told_back numbers told after key n none came went k = went k ∙ ap (cond (is_eq (entry_cmp key k)) None) (came k) ∙ by_cases (is_eq (entry_cmp key k)) refl
  where
    by_cases : (b : Bool) → is_eq (entry_cmp key k) ≡ b → cond b None (cond b (Some n) (number_in numbers k)) ≡ number_in numbers k
    by_cases true e = sym (ap (number_in numbers) (sym (eq_keys key k e)) ∙ none)
    by_cases false e = refl
