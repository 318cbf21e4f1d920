-- What a tenant has of all dockets is its docket.
use Rattle.std.proofs.Common.{◌≡◌, ◌==◌, arith, [], ℕ, Bool, true, false, cond, List, Option, Some, None, IsSome, Result, Ok, Err, OnErr, Ordering, refl, sym, ap, ◌∙◌, subst, unwrap_or, if◌then◌else◌}
use Rattle.std.specs.BTreeMap.{BTreeMap, WritesThrough, get, is_at}
use Rattle.std.specs.Cmp.Lexicographic.{slice_cmp}
use Rattle.std.specs.List.Sorted.{IsStrictlySortedBy}
use Rattle.std.specs.Map.{keys_of}
use Rattle.std.specs.Ordering.{nat_cmp}
use Rattle.std.proofs.lemmas.Bool.Decides.{nat_tests}
use Rattle.am_tenant.specs.Names.{same}
use Rattle.am_tenant.proofs.Same.{eq_from_same, is_eq-name_cmp, same-sym}
use Rattle.am_tenant.proofs.Tables.{lookup-by_name}
use Rattle.am_quorum.specs.declared.operation.Operation.{Operation}
use Rattle.am_quorum.specs.declared.operation.Target.{Target}
use Rattle.am_quorum.specs.Dockets.{Docket, Ops, docket_of, found_docket, no_docket}
use Rattle.am_quorum.specs.Operations.{operation_of, target_in}

-- the order of tenants
abbrev pub tenants : List ℕ → List ℕ → Ordering
tenants = slice_cmp nat_cmp

-- the operations of an instance in this incarnation that has these dockets
abbrev pub ops_in : (incarnation : ℕ) → BTreeMap (List ℕ) Docket → Ops
ops_in incarnation m = record { incarnation = incarnation; dockets = m.entries }

-- what a tenant has is what a look-up of the tenant gives
pub docket_seen : (i : ℕ) (t : List ℕ) (m : BTreeMap (List ℕ) Docket) → docket_of t (ops_in i m) ≡ found_docket (get tenants m t)
unfolding docket_of
docket_seen i t m = ap found_docket (sym (lookup-by_name t m.entries))

-- the docket that was found is the tenant's
pub own_docket : (i : ℕ) (m : BTreeMap (List ℕ) Docket) (tenant : List ℕ) (was : Docket) → Some was ≡ get tenants m tenant → docket_of tenant (ops_in i m) ≡ was
own_docket i m tenant was found = docket_seen i tenant m ∙ ap found_docket (sym found)

pub no_own : (i : ℕ) (m : BTreeMap (List ℕ) Docket) (tenant : List ℕ) → None ≡ get tenants m tenant → docket_of tenant (ops_in i m) ≡ no_docket
no_own i m tenant none = docket_seen i tenant m ∙ ap found_docket (sym none)

-- ---- a docket changes

module _ (i : ℕ) (m n : BTreeMap (List ℕ) Docket) (tenant : List ℕ) (f : Docket → Docket) where
  -- that of one tenant did
  pub each_changed : (was now : Docket) → ((q : List ℕ) → get tenants n q ≡ cond (is_at (tenants tenant) q) (Some now) (get tenants m q)) → found_docket (get tenants m tenant) ≡ was → now ≡ f was
      → (t : List ℕ) → docket_of t (ops_in i n) ≡ (if same t tenant then f (docket_of t (ops_in i m)) else docket_of t (ops_in i m))
  each_changed was now gets found is t = docket_seen i t n ∙ ap found_docket (gets t) ∙ by_cases (same t tenant) refl
    where
      test : is_at (tenants tenant) t ≡ same t tenant
      test = is_eq-name_cmp tenant t ∙ same-sym tenant t

      by_cases : (b : Bool) → same t tenant ≡ b → found_docket (cond (is_at (tenants tenant) t) (Some now) (get tenants m t)) ≡ (if b then f (docket_of t (ops_in i m)) else docket_of t (ops_in i m))
      by_cases true h =
          ap (λ b. found_docket (cond b (Some now) (get tenants m t))) (test ∙ h) ∙ is
          ∙ ap f (sym found ∙ ap (λ q. found_docket (get tenants m q)) (sym (eq_from_same t tenant h)) ∙ sym (docket_seen i t m))
      by_cases false h = ap (λ b. found_docket (cond b (Some now) (get tenants m t))) (test ∙ h) ∙ sym (docket_seen i t m)

  -- what was written to the docket that was found is what the tenant has, and the others have what they had
  pub each_written : (was now : Docket) → Some was ≡ get tenants m tenant → WritesThrough tenants (tenants tenant) m now n → now ≡ f was
      → (t : List ℕ) → docket_of t (ops_in i n) ≡ (if same t tenant then f (docket_of t (ops_in i m)) else docket_of t (ops_in i m))
  each_written was now found wrote is =
      let there : IsSome (get tenants m tenant) = rw (← found) refl in
      each_changed was now (wrote.3 there).0 (ap found_docket (sym found)) is

-- where no docket was found, nothing changed
pub each_none : (i : ℕ) (m : BTreeMap (List ℕ) Docket) (tenant : List ℕ) (f : Docket → Docket) → None ≡ get tenants m tenant → f no_docket ≡ no_docket
    → (t : List ℕ) → docket_of t (ops_in i m) ≡ (if same t tenant then f (docket_of t (ops_in i m)) else docket_of t (ops_in i m))
each_none i m tenant f none stays t = by_cases (same t tenant) refl
  where
    by_cases : (b : Bool) → same t tenant ≡ b → docket_of t (ops_in i m) ≡ (if b then f (docket_of t (ops_in i m)) else docket_of t (ops_in i m))
    by_cases true h =
        let empty : docket_of t (ops_in i m) ≡ no_docket = docket_seen i t m ∙ ap (λ q. found_docket (get tenants m q)) (eq_from_same t tenant h) ∙ ap found_docket (sym none) in
        empty ∙ sym stays ∙ ap f (sym empty)
    by_cases false h = refl

-- where the change is none, nothing changed
pub each_stays : (ops : Ops) (tenant : List ℕ) (f : Docket → Docket) → ((d : Docket) → f d ≡ d) → (t : List ℕ) → docket_of t ops ≡ (if same t tenant then f (docket_of t ops) else docket_of t ops)
each_stays ops tenant f none t = either_way (same t tenant)
  where
    either_way : (b : Bool) → docket_of t ops ≡ (if b then f (docket_of t ops) else docket_of t ops)
    either_way true = sym (none (docket_of t ops))
    either_way false = refl

-- a docket that was written back as it was changes nothing
pub each_same : (i : ℕ) (m n : BTreeMap (List ℕ) Docket) (tenant : List ℕ) → (was now : Docket) → Some was ≡ get tenants m tenant → WritesThrough tenants (tenants tenant) m now n → now ≡ was → (t : List ℕ) → docket_of t (ops_in i n) ≡ docket_of t (ops_in i m)
each_same i m n tenant was now found wrote is t = each_written i m n tenant (λ d. d) was now found wrote is t ∙ either_way (same t tenant)
  where
    either_way : (b : Bool) → (if b then docket_of t (ops_in i m) else docket_of t (ops_in i m)) ≡ docket_of t (ops_in i m)
    either_way true = refl
    either_way false = refl

-- a docket that was found or new and stays
pub each_kept : (i : ℕ) (m n : BTreeMap (List ℕ) Docket) (tenant : List ℕ) (was now : Docket) → ((q : List ℕ) → get tenants n q ≡ cond (is_at (tenants tenant) q) (Some now) (get tenants m q)) → found_docket (get tenants m tenant) ≡ was → now ≡ was
    → (t : List ℕ) → docket_of t (ops_in i n) ≡ docket_of t (ops_in i m)
each_kept i m n tenant was now gets found is t = each_changed i m n tenant (λ d. d) was now gets found is t ∙ either_way (same t tenant)
  where
    either_way : (b : Bool) → (if b then docket_of t (ops_in i m) else docket_of t (ops_in i m)) ≡ docket_of t (ops_in i m)
    either_way true = refl
    either_way false = refl

-- what is so whatever a call returned is so at its error
pub at_error : {T E X : Type 0} (r : Result T E) → X → OnErr r X
at_error (Ok _) x = tt
at_error (Err _) x = x

-- maps of the same entries have the same dockets
pub dockets_unchanged : (i : ℕ) (t : List ℕ) (n m : BTreeMap (List ℕ) Docket) → n.entries ≡ m.entries → docket_of t (ops_in i n) ≡ docket_of t (ops_in i m)
dockets_unchanged i t n m e = ap (λ (es : List (List ℕ × Docket)). let o : Ops = record { incarnation = i; dockets = es } in docket_of t o) e

-- maps of equal entries have the same dockets, and are ordered alike
pub dockets_same : (i : ℕ) (t : List ℕ) (es fs : List (List ℕ × Docket)) (d : Docket) → docket_of t (record { incarnation = i; dockets = fs }) ≡ d → es ≡ fs → docket_of t (record { incarnation = i; dockets = es }) ≡ d
dockets_same i t es fs d h e = ap (λ (xs : List (List ℕ × Docket)). let o : Ops = record { incarnation = i; dockets = xs } in docket_of t o) e ∙ h

pub ordered_same : (es fs : List (List ℕ × Docket)) → IsStrictlySortedBy tenants (keys_of fs) → es ≡ fs → IsStrictlySortedBy tenants (keys_of es)
ordered_same es fs ordered e = subst (λ (xs : List (List ℕ × Docket)). IsStrictlySortedBy tenants (keys_of xs)) (sym e) ordered

-- a docket that was found, or a new one
pub found_or_new : (o : Option Docket) (fresh was : Docket) → fresh ≡ no_docket → was ≡ unwrap_or o fresh → found_docket o ≡ was
found_or_new None fresh was new found = sym (found ∙ new)
found_or_new (Some d) fresh was new found = sym found

-- ---- what a message is for

-- nothing is open of a tenant that has had no operation
pub nobody : (i : ℕ) (target : Target) → target_in i target [] ≡ None
nobody i target = either_way (target.incarnation == i)
  where
    either_way : (b : Bool) → (if b then operation_of target.number target.epoch [] else None) ≡ None
    either_way true = refl
    either_way false = refl

-- what names this incarnation is for the operation of its number and epoch
pub target_here : (i : ℕ) (target : Target) (ops : List Operation) → target.incarnation ≡ i → target_in i target ops ≡ operation_of target.number target.epoch ops
target_here i target ops is = rw (tested target.incarnation i is) refl
  where
    tested : (a b : ℕ) → a ≡ b → (a == b) ≡ true
    tested a b h = grind (arith, nat_tests)
