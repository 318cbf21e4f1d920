-- The operations of all tenants, tenant by tenant.
use Rattle.std.proofs.Common.{◌≡◌, ℕ, Bool, true, false, cond, List, [], ◌∷◌, ◌++◌, map, Some, Less, refl, sym, ap, ◌∙◌, subst, append-nil, if◌then◌else◌}
use Rattle.std.specs.List.{AllByRecursion}
use Rattle.std.specs.List.Sorted.{IsStrictlySortedBy}
use Rattle.std.specs.Map.{keys_of, lookup}
use Rattle.std.specs.Ordering.{is_eq}
use Rattle.am_share.specs.Pairs.{LeavesOthers, things_of}
use Rattle.am_tenant.specs.Names.{same}
use Rattle.am_tenant.proofs.Same.{eq_from_same, is_eq-name_cmp}
use Rattle.am_quorum.specs.declared.operation.Operation.{Operation}
use Rattle.am_quorum.specs.Dockets.{AreOrdered, Changes, Docket, Ops, docket_of, found_docket, operations_of, pairs_in, pairs_of}
use Rattle.am_quorum.proofs.Seen.{tenants}

-- a tenant's operations in front of others
of_one : (t s : List ℕ) (xs : List Operation) (rest : List (List ℕ × Operation)) →
    things_of t (map (λ o. (s, o)) xs ++ rest) ≡ cond (same t s) (xs ++ things_of t rest) (things_of t rest)
unfolding things_of
of_one t s [] rest = either_way (same t s)
  where
    either_way : (b : Bool) → things_of t rest ≡ cond b (things_of t rest) (things_of t rest)
    either_way true = refl
    either_way false = refl
of_one t s (x ∷ xs) rest = by_cases (same t s) refl (of_one t s xs rest)
  where
    by_cases : (b : Bool) → same t s ≡ b → things_of t (map (λ o. (s, o)) xs ++ rest) ≡ cond b (xs ++ things_of t rest) (things_of t rest)
        → things_of t (map (λ o. (s, o)) (x ∷ xs) ++ rest) ≡ cond b (x ∷ (xs ++ things_of t rest)) (things_of t rest)
    by_cases true h behind = rw h (ap (λ (zs : List Operation). x ∷ zs) behind)
    by_cases false h behind = rw h behind

-- dockets of greater tenants have nothing of this one
of_greater : (t : List ℕ) (es : List (List ℕ × Docket)) → AllByRecursion (λ s. tenants t s ≡ Less) (keys_of es) → things_of t (pairs_in es) ≡ []
unfolding things_of
of_greater t [] all = refl
of_greater t (e ∷ es) all =
    of_one t e.0 e.1.operations (pairs_in es)
    ∙ ap (λ (b : Bool). cond b (e.1.operations ++ things_of t (pairs_in es)) (things_of t (pairs_in es))) (sym (is_eq-name_cmp t e.0) ∙ ap is_eq all.0)
    ∙ of_greater t es all.1

-- what pairs have of a tenant is what a look-up of the tenant gives
in_dockets : (t : List ℕ) (es : List (List ℕ × Docket)) → IsStrictlySortedBy tenants (keys_of es) →
    things_of t (pairs_in es) ≡ (found_docket (lookup (λ s. same t s) es)).operations
unfolding things_of IsStrictlySortedBy
in_dockets t [] up = refl
in_dockets t (e ∷ es) up = of_one t e.0 e.1.operations (pairs_in es) ∙ by_cases (same t e.0) refl (in_dockets t es up.1)
  where
    by_cases : (b : Bool) → same t e.0 ≡ b → things_of t (pairs_in es) ≡ (found_docket (lookup (λ s. same t s) es)).operations
        → cond b (e.1.operations ++ things_of t (pairs_in es)) (things_of t (pairs_in es))
        ≡ (found_docket (cond b (Some e.1) (lookup (λ s. same t s) es))).operations
    by_cases true h behind =
        let none : things_of t (pairs_in es) ≡ [] =
        of_greater t es (subst (λ (q : List ℕ). AllByRecursion (λ p. tenants q p ≡ Less) (keys_of es)) (sym (eq_from_same t e.0 h)) up.0) in
        ap (λ (zs : List Operation). e.1.operations ++ zs) none ∙ append-nil e.1.operations
    by_cases false h behind = behind

pub operations_seen : (t : List ℕ) (ops : Ops) → AreOrdered ops → things_of t (pairs_of ops) ≡ operations_of t ops
unfolding docket_of
operations_seen t ops up = in_dockets t ops.dockets up

-- where a tenant's docket stayed, so did the list of the tenant's operations
pub same_list : (t : List ℕ) (old new : Ops) → AreOrdered old → AreOrdered new → docket_of t new ≡ docket_of t old →
    things_of t (pairs_of new) ≡ things_of t (pairs_of old)
same_list t old new was is stays =
    operations_seen t new is ∙ ap (λ (d : Docket). d.operations) stays ∙ sym (operations_seen t old was)

pub others_stay : (tenant : List ℕ) (change : Docket → Docket) (old new : Ops) → AreOrdered old → AreOrdered new → Changes tenant change old new →
    LeavesOthers tenant (pairs_of old) (pairs_of new)
others_stay tenant change old new was is changes t other =
    same_list t old new was is
    (changes t ∙ ap (λ (b : Bool). if b then change (docket_of t old) else docket_of t old) other)
