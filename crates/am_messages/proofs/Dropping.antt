-- What is left once a tenant was dropped.
use Rattle.std.proofs.Common.{◌≡◌, ℕ, Bool, true, false, ◌&&◌, not, cond, List, [], ◌∷◌, Option, Some, None, refl, sym, ap, ◌∙◌, arith, if◌then◌else◌}
use Rattle.std.specs.BTreeSet.{BTreeSet}
use Rattle.std.specs.List.{filter, list_any}
use Rattle.std.specs.Ordering.{is_eq}
use Rattle.std.proofs.lemmas.Map.Entries.{lookup-filter-keys}
use Rattle.std.proofs.lemmas.Map.Views.{any-filter_same}
use Rattle.am_share.specs.Pairs.{things_of}
use Rattle.am_tenant.specs.Names.{same}
use Rattle.am_tenant.proofs.Same.{name_tests}
use Rattle.am_messages.specs.declared.messages.Lapse.{Lapse}
use Rattle.am_messages.specs.declared.messages.Posted.{Posted}
use Rattle.am_messages.specs.declared.name.MessageName.{MessageName}
use Rattle.am_messages.specs.Names.{same_name}
use Rattle.am_messages.specs.Posted.{AreTimed, has_lapse, lapse_cmp, lapse_of, pairs_of, posted_at}
use Rattle.am_messages.proofs.Orders.{one_lapse, one_name}

-- what is of other tenants
abbrev pub others : List ℕ → List (MessageName × Posted) → List (MessageName × Posted)
others tenant es = filter (λ e. not (same e.0.tenant tenant)) es

abbrev pub is_others : List ℕ → Lapse → Bool
is_others tenant lapse = not (same lapse.name.tenant tenant)

-- ---- each tenant's list

dropped_more : (t tenant : List ℕ) (e : MessageName × Posted) (es : List (MessageName × Posted))
    → things_of t (pairs_of (others tenant es)) ≡ (if same t tenant then [] else things_of t (pairs_of es))
    → things_of t (pairs_of (others tenant (e ∷ es))) ≡ (if same t tenant then [] else things_of t (pairs_of (e ∷ es)))
unfolding things_of
dropped_more t tenant e es rest = by_cases (same e.0.tenant tenant) (same t e.0.tenant) (same t tenant) refl refl refl rest
  where
    gone : same e.0.tenant tenant ≡ true → same t e.0.tenant ≡ true → same t tenant ≡ false → ⊥
    gone a b c = grind (arith, name_tests)

    there : same e.0.tenant tenant ≡ false → same t e.0.tenant ≡ true → same t tenant ≡ true → ⊥
    there a b c = grind (arith, name_tests)

    by_cases : (a b c : Bool) → same e.0.tenant tenant ≡ a → same t e.0.tenant ≡ b → same t tenant ≡ c
        → things_of t (pairs_of (others tenant es)) ≡ (if c then [] else things_of t (pairs_of es))
        → things_of t (pairs_of (others tenant (e ∷ es))) ≡ (if c then [] else things_of t (pairs_of (e ∷ es)))
    by_cases true b true x y z h = rw x h
    by_cases true true false x y z h = absurd (gone x y z)
    by_cases true false false x y z h = rw (x, y) h
    by_cases false true true x y z h = absurd (there x y z)
    by_cases false false true x y z h = rw x (rw y h)
    by_cases false true false x y z h = rw x (rw y (ap (λ (ps : List Posted). e.1 ∷ ps) h))
    by_cases false false false x y z h = rw x (rw y h)

nothing_left : (nothing : List Posted) (b : Bool) → nothing ≡ [] → nothing ≡ (if b then [] else nothing)
nothing_left nothing true is = is
nothing_left nothing false is = refl

pub dropped : (tenant : List ℕ) (es : List (MessageName × Posted)) (t : List ℕ) → things_of t (pairs_of (others tenant es)) ≡ (if same t tenant then [] else things_of t (pairs_of es))
unfolding things_of
dropped tenant [] t = nothing_left [] (same t tenant) refl
dropped tenant (e ∷ es) t = dropped_more t tenant e es (dropped tenant es t)

-- ---- each message has its lapse

posted_of_others : (tenant : List ℕ) (es : List (MessageName × Posted)) (n : MessageName) → posted_at n (others tenant es) ≡ cond (not (same n.tenant tenant)) (posted_at n es) None
posted_of_others tenant es n =
    lookup-filter-keys (λ k. same_name n k) (λ (k : MessageName). not (same k.tenant tenant)) (not (same n.tenant tenant))
    (λ k h. ap (λ (m : MessageName). not (same m.tenant tenant)) (sym (one_name n k h))) es

-- .. of whom it is
their_own : (b : Bool) (o : Option Posted) (p : Posted) → cond b o None ≡ Some p → (b ≡ true) × (o ≡ Some p)
their_own true o p h = (refl, h)
their_own false o p h = absurd (cc)

pub timed_left : (tenant : List ℕ) (es new : List (MessageName × Posted)) (ls after : BTreeSet Lapse) → new ≡ others tenant es → after.keys ≡ filter (is_others tenant) ls.keys → AreTimed es ls → AreTimed new after
timed_left tenant es new ls after left lapses timed n p h =
    let parts = their_own (not (same n.tenant tenant)) (posted_at n es) p (sym (posted_of_others tenant es n) ∙ ap (posted_at n) (sym left) ∙ h) in
    let q : Lapse = lapse_of n p in
    ap (λ ks. list_any (λ k. is_eq (lapse_cmp q k)) ks) lapses
    ∙ any-filter_same (λ k. is_eq (lapse_cmp q k)) (is_others tenant) (is_others tenant q) (λ k e. ap (is_others tenant) (sym (one_lapse q k e))) ls.keys
    ∙ ap (λ b. b && has_lapse ls q) parts.0 ∙ timed n p parts.1
