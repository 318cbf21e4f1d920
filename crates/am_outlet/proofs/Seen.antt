-- What a tenant has of all desks is its desk.
use Rattle.std.proofs.Common.{◌≡◌, ℕ, Bool, true, false, cond, List, [], ◌∷◌, ◌++◌, map, Option, Some, None, IsSome, Result, Ok, Err, OnErr, OnOk, inl, inr, Ordering, Less, refl, sym, ap, ◌∙◌, subst, unwrap_or, if◌then◌else◌}
use Rattle.std.specs.BTreeMap.{BTreeMap, IsOrdered, WritesThrough, get, is_at}
use Rattle.std.specs.Cmp.Lexicographic.{slice_cmp}
use Rattle.std.specs.List.{AllByRecursion}
use Rattle.std.specs.List.Sorted.{IsStrictlySortedBy}
use Rattle.std.specs.Map.{keys_of, lookup}
use Rattle.std.specs.Option.{option_map}
use Rattle.std.specs.Ordering.{is_eq, nat_cmp}
use Rattle.std.proofs.lemmas.List.{append-nil}
use Rattle.std.proofs.lemmas.Map.Made.{lookup-map_values}
use Rattle.am_share.specs.Pairs.{LeavesOthers, things_of}
use Rattle.am_tenant.specs.Names.{same}
use Rattle.am_tenant.proofs.Same.{eq_from_same, is_eq-name_cmp, same-sym}
use Rattle.am_tenant.proofs.Tables.{lookup-by_name}
use Rattle.am_item.specs.declared.entry.EntryKey.{EntryKey}
use Rattle.am_outlet.specs.declared.attempt.Attempt.{Attempt}
use Rattle.am_outlet.specs.Attempts.{Desk, cleared, no_attempts, without}
use Rattle.am_outlet.specs.Desks.{Desks, IsSameOrWithout, desk_of, desks_in, pairs_in}

-- the order of tenants
abbrev pub tenants : List ℕ → List ℕ → Ordering
tenants = slice_cmp nat_cmp

-- the desk in what a look-up gives
abbrev pub found_desk : Option Desk → Desk
found_desk None = no_attempts
found_desk (Some desk) = desk

-- a tenant's pairs in front of others
of_one : (t s : List ℕ) (xs : List (ℕ × Attempt)) (rest : List (List ℕ × (ℕ × Attempt))) → things_of t (map (λ p. (s, p)) xs ++ rest) ≡ cond (same t s) (xs ++ things_of t rest) (things_of t rest)
unfolding things_of
of_one t s [] rest = by_cases (same t s)
  where
    by_cases : (b : Bool) → things_of t rest ≡ cond b (things_of t rest) (things_of t rest)
    by_cases true = refl
    by_cases false = refl
of_one t s (x ∷ xs) rest = by_cases (same t s) refl (of_one t s xs rest)
  where
    by_cases : (b : Bool) → same t s ≡ b → things_of t (map (λ p. (s, p)) xs ++ rest) ≡ cond (same t s) (xs ++ things_of t rest) (things_of t rest)
        → things_of t (map (λ p. (s, p)) (x ∷ xs) ++ rest) ≡ cond b (x ∷ xs ++ things_of t rest) (things_of t rest)
    by_cases true e h = rw e (ap (λ zs. x ∷ zs) (h ∙ ap (λ b. cond b (xs ++ things_of t rest) (things_of t rest)) e))
    by_cases false e h = rw e (h ∙ ap (λ b. cond b (xs ++ things_of t rest) (things_of t rest)) e)

-- desks of greater tenants have nothing of this one
of_greater : (t : List ℕ) (es : List (List ℕ × Desk)) → AllByRecursion (λ s. tenants t s ≡ Less) (keys_of es) → things_of t (pairs_in es) ≡ []
unfolding things_of
of_greater t [] all = refl
of_greater t (e ∷ es) all =
    of_one t e.0 e.1.open_ones (pairs_in es)
    ∙ ap (λ b. cond b (e.1.open_ones ++ things_of t (pairs_in es)) (things_of t (pairs_in es))) (sym (is_eq-name_cmp t e.0) ∙ ap is_eq all.0)
    ∙ of_greater t es all.1

-- what pairs have of a tenant is what a look-up of the tenant gives
attempts_seen : (t : List ℕ) (es : List (List ℕ × Desk)) → IsStrictlySortedBy tenants (keys_of es) → things_of t (pairs_in es) ≡ (found_desk (lookup (λ s. same t s) es)).open_ones
unfolding things_of IsStrictlySortedBy
attempts_seen t [] up = refl
attempts_seen t (e ∷ es) up = of_one t e.0 e.1.open_ones (pairs_in es) ∙ by_cases (same t e.0) refl (attempts_seen t es up.1)
  where
    by_cases : (b : Bool) → same t e.0 ≡ b → things_of t (pairs_in es) ≡ (found_desk (lookup (λ s. same t s) es)).open_ones
        → cond b (e.1.open_ones ++ things_of t (pairs_in es)) (things_of t (pairs_in es)) ≡ (found_desk (lookup (λ s. same t s) (e ∷ es))).open_ones
    by_cases true h rest =
        let none : things_of t (pairs_in es) ≡ [] = of_greater t es (subst (λ q. AllByRecursion (λ p. tenants q p ≡ Less) (keys_of es)) (sym (eq_from_same t e.0 h)) up.0) in
        rw h (ap (λ zs. e.1.open_ones ++ zs) none ∙ append-nil e.1.open_ones)
    by_cases false h rest = rw h rest

counts_seen : (t : List ℕ) (es : List (List ℕ × Desk)) → unwrap_or (lookup (λ s. same t s) (map (λ e. (e.0, e.1.used)) es)) 0 ≡ (found_desk (lookup (λ s. same t s) es)).used
counts_seen t es = ap (λ (o : Option ℕ). unwrap_or o 0) (lookup-map_values (λ (d : Desk). d.used) (λ s. same t s) es) ∙ of_found (lookup (λ s. same t s) es)
  where
    of_found : (o : Option Desk) → unwrap_or (option_map (λ (d : Desk). d.used) o) 0 ≡ (found_desk o).used
    of_found None = refl
    of_found (Some d) = refl

-- what a tenant has of all desks is what a look-up of the tenant gives
pub desk_seen : (t : List ℕ) (m : BTreeMap (List ℕ) Desk) → IsOrdered tenants m → desk_of t (desks_in m) ≡ found_desk (get tenants m t)
unfolding desk_of desks_in
desk_seen t m ordered =
    let by_name = attempts_seen t m.entries ordered in
    let used = counts_seen t m.entries in
    (λ i. let d : Desk = record { used = used i; open_ones = by_name i } in d) ∙ ap found_desk (sym (lookup-by_name t m.entries))

-- ---- a desk changes

module _ (m n : BTreeMap (List ℕ) Desk) (tenant : List ℕ) (f : Desk → Desk) (ordered : IsOrdered tenants m) where
  -- that of one tenant did
  pub each_changed : (was now : Desk) → IsOrdered tenants n → ((q : List ℕ) → get tenants n q ≡ cond (is_at (tenants tenant) q) (Some now) (get tenants m q)) → found_desk (get tenants m tenant) ≡ was → now ≡ f was
      → (t : List ℕ) → desk_of t (desks_in n) ≡ (if same t tenant then f (desk_of t (desks_in m)) else desk_of t (desks_in m))
  each_changed was now still gets found is t = desk_seen t n still ∙ ap found_desk (gets t) ∙ by_cases (same t tenant) refl
    where
      test : is_at (tenants tenant) t ≡ same t tenant
      test = is_eq-name_cmp tenant t ∙ same-sym tenant t

      by_cases : (b : Bool) → same t tenant ≡ b → found_desk (cond (is_at (tenants tenant) t) (Some now) (get tenants m t)) ≡ (if b then f (desk_of t (desks_in m)) else desk_of t (desks_in m))
      by_cases true h =
          ap (λ b. found_desk (cond b (Some now) (get tenants m t))) (test ∙ h) ∙ is
          ∙ ap f (sym found ∙ ap (λ q. found_desk (get tenants m q)) (sym (eq_from_same t tenant h)) ∙ sym (desk_seen t m ordered))
      by_cases false h = ap (λ b. found_desk (cond b (Some now) (get tenants m t))) (test ∙ h) ∙ sym (desk_seen t m ordered)

  -- that of a tenant that has had no attempt didn't
  pub each_missed : found_desk (get tenants m tenant) ≡ no_attempts → f no_attempts ≡ no_attempts → (t : List ℕ) → desk_of t (desks_in m) ≡ (if same t tenant then f (desk_of t (desks_in m)) else desk_of t (desks_in m))
  each_missed none stays t = by_cases (same t tenant) refl
    where
      by_cases : (b : Bool) → same t tenant ≡ b → desk_of t (desks_in m) ≡ (if b then f (desk_of t (desks_in m)) else desk_of t (desks_in m))
      by_cases true h =
          let empty : desk_of t (desks_in m) ≡ no_attempts = desk_seen t m ordered ∙ ap (λ q. found_desk (get tenants m q)) (eq_from_same t tenant h) ∙ none in
          empty ∙ sym stays ∙ ap f (sym empty)
      by_cases false h = refl

-- where each other tenant has what it had, the lists of the others stay
pub others_stay : (tenant : List ℕ) (old new : Desks) (f : Desk → Desk) → ((t : List ℕ) → desk_of t new ≡ (if same t tenant then f (desk_of t old) else desk_of t old)) → LeavesOthers tenant old.attempts new.attempts
unfolding desk_of
others_stay tenant old new f each t other =
    ap (λ (d : Desk). d.open_ones) (each t ∙ ap (λ b. if b then f (desk_of t old) else desk_of t old) other)

-- the desk that was found is the tenant's
pub own_desk : (m : BTreeMap (List ℕ) Desk) (tenant : List ℕ) (was : Desk) → IsOrdered tenants m → Some was ≡ get tenants m tenant → desk_of tenant (desks_in m) ≡ was
own_desk m tenant was ordered found = desk_seen tenant m ordered ∙ ap found_desk (sym found)

pub no_desk : (m : BTreeMap (List ℕ) Desk) (tenant : List ℕ) → IsOrdered tenants m → None ≡ get tenants m tenant → desk_of tenant (desks_in m) ≡ no_attempts
no_desk m tenant ordered none = desk_seen tenant m ordered ∙ ap found_desk (sym none)

-- what was written to the desk that was found is what the tenant has, and the others have what they had
pub each_written : (m n : BTreeMap (List ℕ) Desk) (tenant : List ℕ) (f : Desk → Desk) → IsOrdered tenants m → (was now : Desk) → Some was ≡ get tenants m tenant → WritesThrough tenants (tenants tenant) m now n → now ≡ f was
    → (t : List ℕ) → desk_of t (desks_in n) ≡ (if same t tenant then f (desk_of t (desks_in m)) else desk_of t (desks_in m))
each_written m n tenant f ordered was now found wrote is =
    let there : IsSome (get tenants m tenant) = rw (← found) refl in
    each_changed m n tenant f ordered was now wrote.4 (wrote.3 there).0 (ap found_desk (sym found)) is

-- where no desk was found, nothing changed
pub each_none : (m : BTreeMap (List ℕ) Desk) (tenant : List ℕ) (f : Desk → Desk) → IsOrdered tenants m → None ≡ get tenants m tenant → f no_attempts ≡ no_attempts
    → (t : List ℕ) → desk_of t (desks_in m) ≡ (if same t tenant then f (desk_of t (desks_in m)) else desk_of t (desks_in m))
each_none m tenant f ordered none stays = each_missed m m tenant f ordered (ap found_desk (sym none)) stays

-- a tenant whose desk was cleared has no attempts, and the others have theirs
pub dropped : (tenant : List ℕ) (old new : Desks) → ((t : List ℕ) → desk_of t new ≡ (if same t tenant then cleared (desk_of t old) else desk_of t old))
    → (t : List ℕ) → things_of t new.attempts ≡ (if same t tenant then [] else things_of t old.attempts)
unfolding desk_of
dropped tenant old new each t = ap (λ (d : Desk). d.open_ones) (each t) ∙ by_cases (same t tenant)
  where
    by_cases : (b : Bool) → (if b then cleared (desk_of t old) else desk_of t old).open_ones ≡ (if b then [] else things_of t old.attempts)
    by_cases true = refl
    by_cases false = refl

-- a desk that was written back as it was changes nothing
pub each_same : (m n : BTreeMap (List ℕ) Desk) (tenant : List ℕ) → IsOrdered tenants m → (was now : Desk) → Some was ≡ get tenants m tenant → WritesThrough tenants (tenants tenant) m now n → now ≡ was → (t : List ℕ) → desk_of t (desks_in n) ≡ desk_of t (desks_in m)
each_same m n tenant ordered was now found wrote is t = each_written m n tenant (λ d. d) ordered was now found wrote is t ∙ either_way (same t tenant)
  where
    either_way : (b : Bool) → (if b then desk_of t (desks_in m) else desk_of t (desks_in m)) ≡ desk_of t (desks_in m)
    either_way true = refl
    either_way false = refl

pub others_same : (tenant : List ℕ) (old new : Desks) → ((t : List ℕ) → desk_of t new ≡ desk_of t old) → LeavesOthers tenant old.attempts new.attempts
unfolding desk_of
others_same tenant old new each t other = ap (λ (d : Desk). d.open_ones) (each t)

-- what is so whatever a call returned is so at its error
pub at_error : {T E X : Type 0} (r : Result T E) → X → OnErr r X
at_error (Ok _) x = tt
at_error (Err _) x = x

-- maps of the same entries have the same desks
pub desks_unchanged : (t : List ℕ) (n m : BTreeMap (List ℕ) Desk) → n.entries ≡ m.entries → desk_of t (desks_in n) ≡ desk_of t (desks_in m)
unfolding desks_in
desks_unchanged t n m e = ap (λ (es : List (List ℕ × Desk)). let d : Desks = record { attempts = pairs_in es; counts = map (λ p. (p.0, p.1.used)) es } in desk_of t d) e

-- equal maps have the same desks
pub desks_same : (t : List ℕ) (n m : BTreeMap (List ℕ) Desk) (d : Desk) → desk_of t (desks_in m) ≡ d → n ≡ m → desk_of t (desks_in n) ≡ d
desks_same t n m d h e = ap (λ k. desk_of t (desks_in k)) e ∙ h

-- a desk that was found, or a new one
pub found_or_new : (o : Option Desk) (fresh was : Desk) → fresh ≡ no_attempts → was ≡ unwrap_or o fresh → found_desk o ≡ was
found_or_new None fresh was new found = sym (found ∙ new)
found_or_new (Some d) fresh was new found = sym found

-- a desk that was found or new and stays
pub each_kept : (m n : BTreeMap (List ℕ) Desk) (tenant : List ℕ) → IsOrdered tenants m → (was now : Desk) → IsOrdered tenants n → ((q : List ℕ) → get tenants n q ≡ cond (is_at (tenants tenant) q) (Some now) (get tenants m q)) → found_desk (get tenants m tenant) ≡ was → now ≡ was
    → (t : List ℕ) → desk_of t (desks_in n) ≡ desk_of t (desks_in m)
each_kept m n tenant ordered was now still gets found is t = each_changed m n tenant (λ d. d) ordered was now still gets found is t ∙ either_way (same t tenant)
  where
    either_way : (b : Bool) → (if b then desk_of t (desks_in m) else desk_of t (desks_in m)) ≡ desk_of t (desks_in m)
    either_way true = refl
    either_way false = refl

-- at an error too the lists of the others stay ..
pub others_at_error : (key : EntryKey) (tenant : List ℕ) (old new : Desks) → IsSameOrWithout key tenant old new → LeavesOthers tenant old.attempts new.attempts
others_at_error key tenant old new (inl same_desks) = others_same tenant old new same_desks
others_at_error key tenant old new (inr gone) = others_stay tenant old new (without key) gone

-- .. so whatever the call returned
pub others_either : {T E : Type 0} (r : Result T E) (f : Desk → Desk) (key : EntryKey) (tenant : List ℕ) (old new : Desks) → OnOk r ((t : List ℕ) → desk_of t new ≡ (if same t tenant then f (desk_of t old) else desk_of t old))
    → OnErr r (IsSameOrWithout key tenant old new) → LeavesOthers tenant old.attempts new.attempts
others_either (Ok x) f key tenant old new each err = others_stay tenant old new f each
others_either (Err e) f key tenant old new each err = others_at_error key tenant old new err
