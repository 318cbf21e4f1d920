-- What is grouped of every tenant, as that of one changes.
use Rattle.std.proofs.Common.{◌≡◌, ℕ, Bool, true, false, cond, inl, inr, List, [], ◌∷◌, Some, None, Result, Ok, Err, OnErr, refl, sym, ap, ◌∙◌}
use Rattle.std.specs.BTreeMap as tree
use Rattle.std.specs.Cmp.Lexicographic.{slice_cmp}
use Rattle.std.specs.Map.{lookup, remove_entry}
use Rattle.std.specs.Option.{unwrap_or}
use Rattle.std.specs.Ordering.{nat_cmp}
use Rattle.std.proofs.lemmas.Bool.{cases_Bool}
use Rattle.am_share.specs.Pairs.{Drops, things_of}
use Rattle.am_tenant.specs.Names.{same}
use Rattle.am_tenant.proofs.Same.{eq_from_same, is_eq-name_cmp, same-refl}
use Rattle.am_tenant.proofs.Tables.{lookup-by_name, lookup-updates}
use Rattle.am_members.specs.Grouped.{Grouped, grouped_of, nothing}

-- what is grouped of tenants
abbrev pub Tenants : Type 0
Tenants = List (List ℕ × Grouped)

-- a look-up found a tenant
pub grouped_there : (t : List ℕ) (es : Tenants) (x : Grouped) → Some x ≡ lookup (tree.is_at (slice_cmp nat_cmp t)) es → grouped_of t es ≡ x
unfolding grouped_of
grouped_there t es x found = ap (λ o. unwrap_or o nothing) (sym (lookup-by_name t es) ∙ sym found)

-- or it didn't
pub grouped_none : (t : List ℕ) (es : Tenants) → None ≡ lookup (tree.is_at (slice_cmp nat_cmp t)) es → grouped_of t es ≡ nothing
unfolding grouped_of
grouped_none t es none = ap (λ o. unwrap_or o nothing) (sym (lookup-by_name t es) ∙ sym none)

-- what is found, or else nothing
pub grouped_or : (t : List ℕ) (es : Tenants) (fresh : Grouped) → fresh ≡ nothing → unwrap_or (lookup (tree.is_at (slice_cmp nat_cmp t)) es) fresh ≡ grouped_of t es
unfolding grouped_of
grouped_or t es fresh is = ap (unwrap_or (lookup (tree.is_at (slice_cmp nat_cmp t)) es)) is ∙ ap (λ o. unwrap_or o nothing) (lookup-by_name t es)

-- what is grouped in an equal list
pub grouped_same : {A : Type 0} (f : Grouped → A) (t : List ℕ) (ns ms : Tenants) (a : A) → f (grouped_of t ms) ≡ a → ns ≡ ms → f (grouped_of t ns) ≡ a
grouped_same f t ns ms a is same = ap (λ es. f (grouped_of t es)) same ∙ is

module _ (m n : tree.BTreeMap (List ℕ) Grouped) (tenant : List ℕ) where
  -- after a change of what is grouped of one tenant
  pub grouped_changed : (now : Grouped) → tree.Updates (slice_cmp nat_cmp) m n tenant (Some now) → (t : List ℕ) → grouped_of t n.entries ≡ cond (same t tenant) now (grouped_of t m.entries)
  unfolding grouped_of
  grouped_changed now written t = ap (λ o. unwrap_or o nothing) (lookup-updates m n tenant (Some now) written t) ∙ by_case (same t tenant)
    where
      by_case : (b : Bool) → unwrap_or (cond b (Some now) (lookup (λ s. same t s) m.entries)) nothing ≡ cond b now (unwrap_or (lookup (λ s. same t s) m.entries) nothing)
      by_case true = refl
      by_case false = refl

  -- what is grouped of it then
  pub grouped_own : (now x : Grouped) → tree.Updates (slice_cmp nat_cmp) m n tenant (Some now) → now ≡ x → grouped_of tenant n.entries ≡ x
  grouped_own now x written is = grouped_changed now written tenant ∙ rw (same-refl tenant) is

  -- after a tenant went
  pub grouped_gone : tree.Updates (slice_cmp nat_cmp) m n tenant None → (t : List ℕ) → grouped_of t n.entries ≡ cond (same t tenant) nothing (grouped_of t m.entries)
  unfolding grouped_of
  grouped_gone written t = ap (λ o. unwrap_or o nothing) (lookup-updates m n tenant None written t) ∙ by_case (same t tenant)
    where
      by_case : (b : Bool) → unwrap_or (cond b None (lookup (λ s. same t s) m.entries)) nothing ≡ cond b nothing (unwrap_or (lookup (λ s. same t s) m.entries) nothing)
      by_case true = refl
      by_case false = refl

  -- a part of what is grouped became g of what was
  pub part_changed : {A : Type 0} (f : Grouped → A) (g : Grouped → A) (was now : Grouped) → tree.Updates (slice_cmp nat_cmp) m n tenant (Some now) → was ≡ grouped_of tenant m.entries → f now ≡ g was
      → (t : List ℕ) → f (grouped_of t n.entries) ≡ cond (same t tenant) (g (grouped_of t m.entries)) (f (grouped_of t m.entries))
  part_changed f g was now written found is t = ap f (grouped_changed now written t) ∙ by_case (same t tenant) refl
    where
      by_case : (b : Bool) → same t tenant ≡ b → f (cond b now (grouped_of t m.entries)) ≡ cond b (g (grouped_of t m.entries)) (f (grouped_of t m.entries))
      by_case true own = is ∙ ap g (found ∙ ap (λ s. grouped_of s m.entries) (sym (eq_from_same t tenant own)))
      by_case false other = refl

  -- a part of what is grouped stayed
  pub part_kept : {A : Type 0} (f : Grouped → A) (was now : Grouped) → tree.Updates (slice_cmp nat_cmp) m n tenant (Some now) → was ≡ grouped_of tenant m.entries → f now ≡ f was → (t : List ℕ) → f (grouped_of t n.entries) ≡ f (grouped_of t m.entries)
  part_kept f was now written found is t = part_changed f f was now written found is t ∙ by_case (same t tenant)
    where
      by_case : (b : Bool) → cond b (f (grouped_of t m.entries)) (f (grouped_of t m.entries)) ≡ f (grouped_of t m.entries)
      by_case true = refl
      by_case false = refl

  -- what is grouped of the others stayed
  pub others_kept : (now : Grouped) → tree.Updates (slice_cmp nat_cmp) m n tenant (Some now) → (t : List ℕ) → same t tenant ≡ false → grouped_of t n.entries ≡ grouped_of t m.entries
  others_kept now written t other = grouped_changed now written t ∙ rw other refl

-- where there is nothing of a tenant, there is nothing to change
pub part_missed : {A : Type 0} (f : Grouped → A) (g : Grouped → A) (es : Tenants) (tenant : List ℕ) → None ≡ lookup (tree.is_at (slice_cmp nat_cmp tenant)) es → f nothing ≡ g nothing
    → (t : List ℕ) → f (grouped_of t es) ≡ cond (same t tenant) (g (grouped_of t es)) (f (grouped_of t es))
part_missed f g es tenant none is t = by_case (same t tenant) refl
  where
    by_case : (b : Bool) → same t tenant ≡ b → f (grouped_of t es) ≡ cond b (g (grouped_of t es)) (f (grouped_of t es))
    by_case true own =
        let bare : grouped_of t es ≡ nothing = ap (λ s. grouped_of s es) (eq_from_same t tenant own) ∙ grouped_none tenant es none in
        rw bare is
    by_case false other = refl

-- an error that says nothing
pub at_error : {T E X : Type 0} (r : Result T E) → X → OnErr r X
at_error (Ok _) x = tt
at_error (Err _) x = x

-- ---- the pairs of a tenant

-- no pair has a tenant that a look-up doesn't find
none_of : (t : List ℕ) (es : Tenants) → lookup (λ s. same t s) es ≡ None → things_of t es ≡ []
unfolding things_of
none_of t [] none = refl
none_of t (e ∷ es) none = elim (cases_Bool (same t e.0)) [
  | inl y ↦ some_none (ap (λ b. cond b (Some e.1) (lookup (λ s. same t s) es)) (sym y) ∙ none)
  | inr n ↦ rw n (none_of t es (rw n at none))
]
  where
    some_none : {A : Type 0} → Some e.1 ≡ None → A
    some_none h = absurd (cc)

-- a first pair of one tenant that went leaves those of the others
others_of : (t tenant : List ℕ) (es : Tenants) → same t tenant ≡ false → things_of t (remove_entry (tree.is_at (slice_cmp nat_cmp tenant)) es) ≡ things_of t es
unfolding things_of
others_of t tenant [] other = refl
others_of t tenant (e ∷ es) other = elim (cases_Bool (same tenant e.0)) [
  | inl y ↦
      let apart : same t e.0 ≡ false = ap (same t) (sym (eq_from_same tenant e.0 y)) ∙ other in
      rw (is_eq-name_cmp tenant e.0, y, apart) refl
  | inr n ↦ elim (cases_Bool (same t e.0)) [
    | inl z ↦ rw (is_eq-name_cmp tenant e.0, n, z) (ap (λ rest. e.1 ∷ rest) (others_of t tenant es other))
    | inr z ↦ rw (is_eq-name_cmp tenant e.0, n, z) (others_of t tenant es other)
  ]
]

-- so a tenant is dropped where its pair went and none is found
pub pair_dropped : (m n : tree.BTreeMap (List ℕ) Grouped) (tenant : List ℕ) → tree.Updates (slice_cmp nat_cmp) m n tenant None → n.entries ≡ remove_entry (tree.is_at (slice_cmp nat_cmp tenant)) m.entries → Drops tenant m.entries n.entries
pair_dropped m n tenant written left t = by_case (same t tenant) refl
  where
    by_case : (b : Bool) → same t tenant ≡ b → things_of t n.entries ≡ cond b [] (things_of t m.entries)
    by_case true own = none_of t n.entries (lookup-updates m n tenant None written t ∙ ap (λ b. cond b None (lookup (λ s. same t s) m.entries)) own)
    by_case false other = ap (things_of t) left ∙ others_of t tenant m.entries other
