-- What every tenant has, where the entry of one tenant changes.
use Rattle.std.proofs.Common.{◌≡◌, ℕ, Bool, true, false, cond, List, [], ◌∷◌, Option, Some, None, IsSome, Ordering, Less, refl, sym, ap, ◌∙◌, subst, unwrap_or, if◌then◌else◌}
use Rattle.std.specs.BTreeMap.{BTreeMap, IsOrdered, WritesThrough, get, is_at}
use Rattle.std.specs.Cmp.Lexicographic.{slice_cmp}
use Rattle.std.specs.List.{AllByRecursion}
use Rattle.std.specs.List.Sorted.{IsStrictlySortedBy}
use Rattle.std.specs.Map.{keys_of, lookup}
use Rattle.std.specs.Option.{option_to_list}
use Rattle.std.specs.Ordering.{is_eq, nat_cmp}
use Rattle.am_share.specs.Pairs.{Drops, LeavesOthers, things_of}
use Rattle.am_tenant.specs.Names.{same}
use Rattle.am_tenant.proofs.Same.{eq_from_same, is_eq-name_cmp, same-sym}
use Rattle.am_tenant.proofs.Tables.{lookup-by_name}
use Rattle.am_transfer.specs.Progress.{Progress, nothing_yet}
use Rattle.am_transfer.specs.Tenants.{progress_of}

-- the order of tenants
abbrev pub tenants : List ℕ → List ℕ → Ordering
tenants = slice_cmp nat_cmp

-- what is kept of a tenant is what a look-up gives
pub seen : (t : List ℕ) (m : BTreeMap (List ℕ) Progress) → progress_of t m.entries ≡ unwrap_or (get tenants m t) nothing_yet
unfolding progress_of
seen t m = ap (λ (o : Option Progress). unwrap_or o nothing_yet) (sym (lookup-by_name t m.entries))

pub own_entry : (m : BTreeMap (List ℕ) Progress) (tenant : List ℕ) (was : Progress) → Some was ≡ get tenants m tenant → progress_of tenant m.entries ≡ was
own_entry m tenant was found = seen tenant m ∙ ap (λ (o : Option Progress). unwrap_or o nothing_yet) (sym found)

pub no_entry : (m : BTreeMap (List ℕ) Progress) (tenant : List ℕ) → None ≡ get tenants m tenant → progress_of tenant m.entries ≡ nothing_yet
no_entry m tenant none = seen tenant m ∙ ap (λ (o : Option Progress). unwrap_or o nothing_yet) (sym none)

module _ (m n : BTreeMap (List ℕ) Progress) (tenant : List ℕ) (f : Progress → Progress) where
  test : (t : List ℕ) → is_at (tenants tenant) t ≡ same t tenant
  test t = is_eq-name_cmp tenant t ∙ same-sym tenant t

  -- that of one tenant changed
  pub each_changed : (was now : Progress) → ((q : List ℕ) → get tenants n q ≡ cond (is_at (tenants tenant) q) (Some now) (get tenants m q))
      → progress_of tenant m.entries ≡ was → now ≡ f was
      → (t : List ℕ) → progress_of t n.entries ≡ (if same t tenant then f (progress_of t m.entries) else progress_of t m.entries)
  each_changed was now gets found is t = seen t n ∙ ap (λ (o : Option Progress). unwrap_or o nothing_yet) (gets t) ∙ by_cases (same t tenant) refl
    where
      by_cases : (b : Bool) → same t tenant ≡ b → unwrap_or (cond (is_at (tenants tenant) t) (Some now) (get tenants m t)) nothing_yet
          ≡ (if b then f (progress_of t m.entries) else progress_of t m.entries)
      by_cases true h =
          ap (λ b. unwrap_or (cond b (Some now) (get tenants m t)) nothing_yet) (test t ∙ h) ∙ is
          ∙ ap f (sym found ∙ ap (λ q. progress_of q m.entries) (sym (eq_from_same t tenant h)))
      by_cases false h = ap (λ b. unwrap_or (cond b (Some now) (get tenants m t)) nothing_yet) (test t ∙ h) ∙ sym (seen t m)

  -- what was written to the entry that was found
  pub each_written : (was now : Progress) → Some was ≡ get tenants m tenant → WritesThrough tenants (tenants tenant) m now n → now ≡ f was
      → (t : List ℕ) → progress_of t n.entries ≡ (if same t tenant then f (progress_of t m.entries) else progress_of t m.entries)
  each_written was now found wrote is =
      let there : IsSome (get tenants m tenant) = rw (← found) refl in
      each_changed was now (wrote.3 there).0 (own_entry m tenant was found) is

-- that of a tenant who has none didn't
pub each_none : (m : BTreeMap (List ℕ) Progress) (tenant : List ℕ) (f : Progress → Progress) → None ≡ get tenants m tenant → f nothing_yet ≡ nothing_yet
    → (t : List ℕ) → progress_of t m.entries ≡ (if same t tenant then f (progress_of t m.entries) else progress_of t m.entries)
each_none m tenant f none stays t = by_cases (same t tenant) refl
  where
    by_cases : (b : Bool) → same t tenant ≡ b → progress_of t m.entries ≡ (if b then f (progress_of t m.entries) else progress_of t m.entries)
    by_cases true h =
        let empty : progress_of t m.entries ≡ nothing_yet = ap (λ q. progress_of q m.entries) (eq_from_same t tenant h) ∙ no_entry m tenant none in
        empty ∙ sym stays ∙ ap f (sym empty)
    by_cases false h = refl

-- ---- the lists of the others

of_greater : (t : List ℕ) (es : List (List ℕ × Progress)) → AllByRecursion (λ s. tenants t s ≡ Less) (keys_of es) → things_of t es ≡ []
unfolding things_of
of_greater t [] all = refl
of_greater t (e ∷ es) all = rw (sym (is_eq-name_cmp t e.0) ∙ ap is_eq all.0) (of_greater t es all.1)

things_seen : (t : List ℕ) (es : List (List ℕ × Progress)) → IsStrictlySortedBy tenants (keys_of es) → things_of t es ≡ option_to_list (lookup (λ s. same t s) es)
unfolding things_of IsStrictlySortedBy
things_seen t [] up = refl
things_seen t (e ∷ es) up = by_cases (same t e.0) refl (things_seen t es up.1)
  where
    by_cases : (b : Bool) → same t e.0 ≡ b → things_of t es ≡ option_to_list (lookup (λ s. same t s) es)
        → things_of t (e ∷ es) ≡ option_to_list (lookup (λ s. same t s) (e ∷ es))
    by_cases true h rest =
        let none : things_of t es ≡ [] = of_greater t es (subst (λ q. AllByRecursion (λ p. tenants q p ≡ Less) (keys_of es)) (sym (eq_from_same t e.0 h)) up.0) in
        rw h (ap (λ xs. e.1 ∷ xs) none)
    by_cases false h rest = rw h rest

pub things_found : (t : List ℕ) (m : BTreeMap (List ℕ) Progress) → IsOrdered tenants m → things_of t m.entries ≡ option_to_list (get tenants m t)
things_found t m ordered = things_seen t m.entries ordered ∙ ap option_to_list (sym (lookup-by_name t m.entries))

-- where one tenant's entry changed, those of the others stay
pub others_stay : (m n : BTreeMap (List ℕ) Progress) (tenant : List ℕ) (o : Option Progress) → IsOrdered tenants m → IsOrdered tenants n
    → ((q : List ℕ) → get tenants n q ≡ cond (is_at (tenants tenant) q) o (get tenants m q)) → LeavesOthers tenant m.entries n.entries
others_stay m n tenant o was is gets t other =
    things_found t n is
    ∙ ap option_to_list (gets t ∙ ap (λ b. cond b o (get tenants m t)) (is_eq-name_cmp tenant t ∙ same-sym tenant t ∙ other))
    ∙ sym (things_found t m was)

pub others_written : (m n : BTreeMap (List ℕ) Progress) (tenant : List ℕ) (was now : Progress) → Some was ≡ get tenants m tenant → WritesThrough tenants (tenants tenant) m now n
    → IsOrdered tenants m → LeavesOthers tenant m.entries n.entries
others_written m n tenant was now found wrote ordered =
    let there : IsSome (get tenants m tenant) = rw (← found) refl in
    others_stay m n tenant (Some now) ordered wrote.4 (wrote.3 there).0

pub others_same : (tenant : List ℕ) (m n : List (List ℕ × Progress)) → n ≡ m → LeavesOthers tenant m n
others_same tenant m n e t other = ap (things_of t) e

-- where it was taken out, nothing of the tenant is left
pub dropped : (m n : BTreeMap (List ℕ) Progress) (tenant : List ℕ) → IsOrdered tenants m → IsOrdered tenants n
    → ((q : List ℕ) → get tenants n q ≡ cond (is_at (tenants tenant) q) None (get tenants m q)) → Drops tenant m.entries n.entries
dropped m n tenant was is gets t = things_found t n is ∙ ap option_to_list (gets t) ∙ by_cases (same t tenant) refl
  where
    by_cases : (b : Bool) → same t tenant ≡ b → option_to_list (cond (is_at (tenants tenant) t) None (get tenants m t)) ≡ (if b then [] else things_of t m.entries)
    by_cases true h = ap (λ b. option_to_list (cond b None (get tenants m t))) (is_eq-name_cmp tenant t ∙ same-sym tenant t ∙ h)
    by_cases false h = ap (λ b. option_to_list (cond b None (get tenants m t))) (is_eq-name_cmp tenant t ∙ same-sym tenant t ∙ h) ∙ sym (things_found t m was)

-- .. and that is what every tenant has
pub each_dropped : (m n : BTreeMap (List ℕ) Progress) (tenant : List ℕ)
    → ((q : List ℕ) → get tenants n q ≡ cond (is_at (tenants tenant) q) None (get tenants m q))
    → (t : List ℕ) → progress_of t n.entries ≡ (if same t tenant then nothing_yet else progress_of t m.entries)
each_dropped m n tenant gets t = seen t n ∙ ap (λ (o : Option Progress). unwrap_or o nothing_yet) (gets t) ∙ by_cases (same t tenant) refl
  where
    by_cases : (b : Bool) → same t tenant ≡ b → unwrap_or (cond (is_at (tenants tenant) t) None (get tenants m t)) nothing_yet ≡ (if b then nothing_yet else progress_of t m.entries)
    by_cases true h = ap (λ b. unwrap_or (cond b None (get tenants m t)) nothing_yet) (is_eq-name_cmp tenant t ∙ same-sym tenant t ∙ h)
    by_cases false h = ap (λ b. unwrap_or (cond b None (get tenants m t)) nothing_yet) (is_eq-name_cmp tenant t ∙ same-sym tenant t ∙ h) ∙ sym (seen t m)

-- an entry that was found, or a new one
pub found_or_new : (o : Option Progress) (fresh was : Progress) → fresh ≡ nothing_yet → was ≡ unwrap_or o fresh → unwrap_or o nothing_yet ≡ was
found_or_new None fresh was new found = sym (found ∙ new)
found_or_new (Some p) fresh was new found = sym found

-- the same of entries that are these
pub entries_same : (t : List ℕ) (es : List (List ℕ × Progress)) (m : BTreeMap (List ℕ) Progress) (p : Progress) → progress_of t m.entries ≡ p → es ≡ m.entries → progress_of t es ≡ p
entries_same t es m p h e = ap (progress_of t) e ∙ h

pub others_moved : (tenant : List ℕ) (old es : List (List ℕ × Progress)) (m : BTreeMap (List ℕ) Progress) → LeavesOthers tenant old m.entries → es ≡ m.entries → LeavesOthers tenant old es
others_moved tenant old es m h e t other = ap (things_of t) e ∙ h t other
