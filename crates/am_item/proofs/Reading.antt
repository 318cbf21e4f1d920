-- Going over what is held of one kind: one item more, and whether a test keeps it.
use Rattle.std.proofs.Common.{◌≡◌, Bool, true, false, Bor, List, [], ◌∷◌, ◌++◌, map, refl, sym, ap, ◌∙◌}
use Rattle.std.specs.List.{filter}
use Rattle.std.specs.Map.Iter.{deref_pair}
use Rattle.std.proofs.lemmas.Bool.{cond-false, cond-true}
use Rattle.std.proofs.lemmas.List.{append-nil}
use Rattle.std.proofs.lemmas.List.Elements.{filter-append}
use Rattle.am_item.specs.Held.{items_by}
use Rattle.am_item.specs.declared.item.Item.{Item}

module _ {K V : Type 0} (item : K → V → Item) where
  -- one item more
  pub items_more : (ys : List (Bor K × Bor V)) (k : Bor K) (v : Bor V) → items_by item (map deref_pair (ys ++ (k, v) ∷ [])) ≡ items_by item (map deref_pair ys) ++ item k.now v.now ∷ []
  items_more [] k v = refl
  items_more (y ∷ ys) k v = ap (λ xs. item y.0.now y.1.now ∷ xs) (items_more ys k v)

  -- one more that a test keeps
  pub kept_more : (p : Item → Bool) (ys : List (Bor K × Bor V)) (k : Bor K) (v : Bor V) (kept : List Item) → kept ≡ filter p (items_by item (map deref_pair ys)) → p (item k.now v.now) ≡ true
      → kept ++ item k.now v.now ∷ [] ≡ filter p (items_by item (map deref_pair (ys ++ (k, v) ∷ [])))
  kept_more p ys k v kept h e =
      let x = item k.now v.now in
      ap (λ xs. xs ++ x ∷ []) h
      ∙ ap (λ xs. filter p (items_by item (map deref_pair ys)) ++ xs) (sym (cond-true _ (x ∷ []) [] e))
      ∙ sym (ap (filter p) (items_more ys k v) ∙ filter-append p (items_by item (map deref_pair ys)) (x ∷ []))

  -- one more that a test leaves out
  pub left_more : (p : Item → Bool) (ys : List (Bor K × Bor V)) (k : Bor K) (v : Bor V) (kept : List Item) → kept ≡ filter p (items_by item (map deref_pair ys)) → p (item k.now v.now) ≡ false
      → kept ≡ filter p (items_by item (map deref_pair (ys ++ (k, v) ∷ [])))
  left_more p ys k v kept h e =
      let x = item k.now v.now in
      h
      ∙ sym (ap (filter p) (items_more ys k v) ∙ filter-append p (items_by item (map deref_pair ys)) (x ∷ [])
      ∙ ap (λ xs. filter p (items_by item (map deref_pair ys)) ++ xs) (cond-false _ (x ∷ []) [] e)
      ∙ append-nil (filter p (items_by item (map deref_pair ys))))
