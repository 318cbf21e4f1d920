-- A book is shorter by one once an item that it holds is gone.
use Rattle.std.proofs.Common.{◌≡◌, ℕ, ◌+◌, Bool, arith, length, List, [], ◌∷◌, ◌++◌, Some, IsSome, sym, ap, ◌∙◌, subst}
use Rattle.std.specs.BTreeMap.{BTreeMap, get, is_at}
use Rattle.std.specs.Cmp.Lexicographic.{slice_cmp}
use Rattle.std.specs.List.{filter}
use Rattle.std.specs.List.Sorted.{IsStrictlySortedBy}
use Rattle.std.specs.Map.{lookup, set_value}
use Rattle.std.specs.Option.{is_some}
use Rattle.std.specs.Ordering.{nat_cmp}
use Rattle.std.proofs.lemmas.Bool.{cond-false, cond-true, false≢true, not_from_false, not_from_true}
use Rattle.am_item.specs.declared.item.Item.{Item}
use Rattle.am_item.specs.declared.key.ThingKey.{ThingKey}
use Rattle.am_item.specs.Best.{IsRising, item_at}
use Rattle.am_item.specs.Key.{has_key, key_of}
use Rattle.am_item.proofs.Greatest.{by_cases, some_same}
use Rattle.am_item.proofs.Keys.{key_same}
use Rattle.am_item.proofs.Removed.{kept_above, lacks_key}
use Rattle.am_item.proofs.Rising.{AllAbove, later_at}
use Rattle.am_book.specs.Book.{found_items, held_of, pairs_in, pairs_of, with_tenant}

-- a tenant's pairs are as many as its items
length-with_tenant : (t : List ℕ) (xs : List Item) (rest : List (List ℕ × Item)) → length (with_tenant t xs ++ rest) ≡ length xs + length rest
length-with_tenant t [] rest = omega arith
length-with_tenant t (x ∷ xs) rest = omega (arith, length-with_tenant t xs rest)

-- what is written to a tenant that is there counts in place of what was found
length-written : (p : List ℕ → Bool) (es : List (List ℕ × List Item)) (found now : List Item)
    → Some found ≡ lookup p es
    → length (pairs_in (set_value p es now)) + length found ≡ length (pairs_in es) + length now
length-written p [] found now is = absurd (false≢true (sym (ap is_some is)))
length-written p (e ∷ es) found now is =
    by_cases (p e.0)
    (λ h.
    let here : e.1 ≡ found = some_same e.1 found (sym (cond-true _ (Some e.1) (lookup p es) h) ∙ sym is) in
    let written : length (pairs_in (set_value p (e ∷ es) now)) ≡ length now + length (pairs_in es) =
    ap (λ zs. length (pairs_in zs)) (cond-true _ ((e.0, now) ∷ es) (e ∷ set_value p es now) h) ∙ length-with_tenant e.0 now (pairs_in es) in
    omega (arith, written, length-with_tenant e.0 e.1 (pairs_in es), ap length here))
    (λ h.
    let behind = length-written p es found now (is ∙ cond-false _ (Some e.1) (lookup p es) h) in
    let written : length (pairs_in (set_value p (e ∷ es) now)) ≡ length e.1 + length (pairs_in (set_value p es now)) =
    ap (λ zs. length (pairs_in zs)) (cond-false _ ((e.0, now) ∷ es) (e ∷ set_value p es now) h) ∙ length-with_tenant e.0 e.1 (pairs_in (set_value p es now)) in
    omega (arith, written, length-with_tenant e.0 e.1 (pairs_in es), behind))

-- a rising list is shorter by one without the item of a key that it has
length-lacking : (k : ThingKey) (xs : List Item) → IsRising xs → IsSome (item_at k xs) → length (filter (lacks_key k) xs) + 1 ≡ length xs
unfolding IsStrictlySortedBy
length-lacking k [] up there = absurd (false≢true there)
length-lacking k (x ∷ xs) up there =
    let rest = filter (lacks_key k) xs in
    by_cases (has_key k x)
    (λ h.
    let above : AllAbove k xs = subst (λ q. AllAbove q xs) (sym (key_same k (key_of x) h)) up.0 in
    omega (arith, ap length (cond-false _ (x ∷ rest) rest (not_from_true (has_key k x) h) ∙ kept_above k xs above)))
    (λ h.
    let behind = length-lacking k xs up.1 (ap is_some (sym (later_at k x xs h)) ∙ there) in
    omega (arith, ap length (cond-true _ (x ∷ rest) rest (not_from_false (has_key k x) h)), behind))

-- the items of a tenant without that of a key that is among them
pub length-removed : (m n : BTreeMap (List ℕ) (List Item)) (tenant : List ℕ) (k : ThingKey) (found now : List Item)
    → Some found ≡ get (slice_cmp nat_cmp) m tenant
    → n.entries ≡ set_value (is_at (slice_cmp nat_cmp tenant)) m.entries now
    → now ≡ filter (lacks_key k) found → IsRising found → IsSome (item_at k (held_of tenant m)) → length (pairs_of n) + 1 ≡ length (pairs_of m)
unfolding pairs_of
length-removed m n tenant k found now there entries is up among =
    let written = length-written (is_at (slice_cmp nat_cmp tenant)) m.entries found now there in
    let less = length-lacking k found up (subst (λ o. IsSome (item_at k (found_items o))) (sym there) among) in
    omega (arith, ap (λ es. length (pairs_in es)) entries, written, ap length is, less)
