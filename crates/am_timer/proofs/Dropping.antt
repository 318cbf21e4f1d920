-- What is left once a tenant was dropped.
use Rattle.std.proofs.Common.{◌≡◌, ℕ, Bool, true, false, ◌&&◌, not, cond, None, List, [], ◌∷◌, Option, Some, refl, sym, ap, ◌∙◌, subst, arith, if◌then◌else◌}
use Rattle.std.specs.List.{filter}
use Rattle.std.proofs.lemmas.Bool.{and_parts}
use Rattle.std.proofs.lemmas.Map.Entries.{lookup-filter-keys}
use Rattle.am_timer.proofs.TiedLemmas.{has-filter, rising-filter}
use Rattle.std.specs.Ordering.{is_eq}
use Rattle.am_share.specs.Pairs.{things_of}
use Rattle.am_tenant.specs.Names.{same}
use Rattle.am_tenant.proofs.Same.{name_tests}
use Rattle.am_timer.specs.Timer.{Name, Timer, name_cmp}
use Rattle.am_timer.specs.Queue.{pairs_of, timers_of}
use Rattle.am_timer.specs.Tied.{IsTied, due_in, has_timer, timer_at}
use Rattle.am_timer.proofs.Orders.{same_name}
use Rattle.am_timer.proofs.Tenants.{things_are, timers_of-filter}

-- the timer is another tenant's
abbrev pub is_others : List ℕ → Timer → Bool
is_others tenant x = not (same x.name.tenant tenant)

none_left : (t tenant : List ℕ) (xs : List Timer) → same t tenant ≡ true → filter (is_others tenant) (timers_of t xs) ≡ []
unfolding timers_of
none_left t tenant [] is = refl
none_left t tenant (x ∷ xs) is = by_cases (same t x.name.tenant) refl (none_left t tenant xs is)
  where
    turned : same t x.name.tenant ≡ true → same x.name.tenant tenant ≡ true
    turned e = grind (arith, name_tests)

    by_cases : (b : Bool) → same t x.name.tenant ≡ b → filter (is_others tenant) (timers_of t xs) ≡ [] → filter (is_others tenant) (timers_of t (x ∷ xs)) ≡ []
    by_cases true e rest = rw e (rw (turned e) rest)
    by_cases false e rest = rw e rest

all_left : (t tenant : List ℕ) (xs : List Timer) → same t tenant ≡ false → filter (is_others tenant) (timers_of t xs) ≡ timers_of t xs
unfolding timers_of
all_left t tenant [] is = refl
all_left t tenant (x ∷ xs) is = by_cases (same t x.name.tenant) refl (all_left t tenant xs is)
  where
    turned : same t x.name.tenant ≡ true → same x.name.tenant tenant ≡ false
    turned e = grind (arith, name_tests)

    by_cases : (b : Bool) → same t x.name.tenant ≡ b → filter (is_others tenant) (timers_of t xs) ≡ timers_of t xs → filter (is_others tenant) (timers_of t (x ∷ xs)) ≡ timers_of t (x ∷ xs)
    by_cases true e rest = rw e (rw (turned e) (ap (λ ys. x ∷ ys) rest))
    by_cases false e rest = rw e rest

-- nothing of the tenant is left, and all of the others
pub dropped : (tenant : List ℕ) (xs : List Timer) (t : List ℕ) → things_of t (pairs_of (filter (is_others tenant) xs)) ≡ (if same t tenant then [] else things_of t (pairs_of xs))
dropped tenant xs t = things_are t (filter (is_others tenant) xs) ∙ timers_of-filter t (is_others tenant) xs ∙ by_cases (same t tenant) refl
  where
    by_cases : (b : Bool) → same t tenant ≡ b → filter (is_others tenant) (timers_of t xs) ≡ (if b then [] else things_of t (pairs_of xs))
    by_cases true e = none_left t tenant xs e
    by_cases false e = all_left t tenant xs e ∙ sym (things_are t xs)

-- what is told of the names of the others
told_of_others : (tenant : List ℕ) (dues : List (Name × ℕ)) (n : Name) → due_in (filter (λ e. not (same e.0.tenant tenant)) dues) n ≡ cond (not (same n.tenant tenant)) (due_in dues n) None
told_of_others tenant dues n = lookup-filter-keys (λ k. is_eq (name_cmp n k)) (λ (k : Name). not (same k.tenant tenant)) (not (same n.tenant tenant)) (λ k h. ap (λ (m : Name). not (same m.tenant tenant)) (sym (same_name n k h))) dues

-- and the maps go together
pub tied_dropped : (tenant : List ℕ) (xs ys : List Timer) (dues after : List (Name × ℕ)) → ys ≡ filter (is_others tenant) xs → after ≡ filter (λ e. not (same e.0.tenant tenant)) dues → IsTied xs dues → IsTied ys after
tied_dropped tenant xs ys dues after ys_is after_is tied =
    subst (λ (zs : List Timer). IsTied zs after) (sym ys_is) (subst (λ (es : List (Name × ℕ)). IsTied (filter (is_others tenant) xs) es) (sym after_is) (record {
      rising = rising-filter (is_others tenant) xs tied.rising;
      told = λ q h.
          let parts = and_parts (is_others tenant q) (has_timer xs q) (sym (has-filter (is_others tenant) xs q) ∙ h) in
          told_of_others tenant dues q.name ∙ ap (λ b. cond b (due_in dues q.name) None) parts.0 ∙ tied.told q parts.1;
      there = λ n due h.
          let parts = told_where (not (same n.tenant tenant)) (due_in dues n) due (sym (told_of_others tenant dues n) ∙ h) in
          has-filter (is_others tenant) xs (timer_at due n) ∙ ap (λ b. b && has_timer xs (timer_at due n)) parts.0 ∙ tied.there n due parts.1;
    }))
  where
    told_where : (b : Bool) (was : Option ℕ) (due : ℕ) → cond b was None ≡ Some due → (b ≡ true) × (was ≡ Some due)
    told_where true was due h = (refl, h)
    told_where false was due h = absurd (cc)
