-- What is left stays the same while what is retired goes, key by key.
use Rattle.std.proofs.Common.{◌≡◌, ◌++◌, ℕ, Bool, true, false, cond, not, ◌&&◌, ◌||◌, List, [], ◌∷◌, filter, refl}
use Rattle.std.proofs.Common.{sym, ap, ◌∙◌, subst, if◌then◌else◌}
use Rattle.std.specs.Option.{option_map_or}
use Rattle.std.specs.Ordering.{is_eq}
use Rattle.std.proofs.lemmas.Bool.{and_parts, and_right, cond-false, cond-true, false≢true, not-false, not-true}
use Rattle.std.proofs.lemmas.Bool.{not_from_false, not_from_true, or_from, or_left, or_right}
use Rattle.std.proofs.lemmas.List.Elements.{filter_agree}
use Rattle.am_tenant.specs.Names.{same}
use Rattle.am_tenant.proofs.Same.{eq_from_same}
use Rattle.am_item.specs.declared.item.Item.{Item}
use Rattle.am_item.specs.declared.key.ThingKey.{ThingKey}
use Rattle.am_item.specs.declared.key.ThingKey.TheVariants.{Configuration, Silence, Alert, SentEntry}
use Rattle.am_item.specs.Best.{item_at}
use Rattle.am_item.specs.Key.{AlertKey, has_key, key_cmp, key_of}
use Rattle.am_item.specs.Retirement.{is_retired}
use Rattle.am_item.proofs.Greatest.{by_cases}
use Rattle.am_item.proofs.Keys.{key_itself, key_same}
use Rattle.am_item.proofs.Removed.{lacks_key}
use Rattle.am_item.proofs.Rising.{here_at, later_at}
use Rattle.am_book.specs.Retired.{is_key_retired}
use Rattle.am_context.proofs.Filters.{any_last, apart_turned, filter_all, filter_both}
use Rattle.am_context.specs.Gone.{is_gone}
use Rattle.am_replica.specs.Retiring.{items_left}

-- a key of which an item is found that is retired
found_retired : (moment : ℕ) (k : ThingKey) (held : List Item) → option_map_or (is_retired moment) (item_at k held) false ≡ true → is_key_retired moment held k ≡ true
found_retired moment k [] h = absurd (false≢true h)
found_retired moment k (x ∷ xs) h =
    by_cases (has_key k x)
    (λ e.
    let gone : is_retired moment x ≡ true = sym (ap (λ o. option_map_or (is_retired moment) o false) (here_at k x xs e)) ∙ h in
    or_left (has_key k x && is_retired moment x) (is_key_retired moment xs k) (ap (λ b. b && is_retired moment x) e ∙ gone))
    (λ e.
    or_right (has_key k x && is_retired moment x) (is_key_retired moment xs k)
    (found_retired moment k xs (sym (ap (λ o. option_map_or (is_retired moment) o false) (later_at k x xs e)) ∙ h)))

-- where the items of a key went, every other is retired as it was
any_lacking : (moment : ℕ) (q k : ThingKey) (held : List Item) → is_eq (key_cmp q k) ≡ false → is_key_retired moment (filter (lacks_key k) held) q ≡ is_key_retired moment held q
any_lacking moment q k [] apart = refl
any_lacking moment q k (x ∷ xs) apart =
    let rest = filter (lacks_key k) xs in
    by_cases (has_key k x)
    (λ e.
    let other : has_key q x ≡ false = ap (λ p. is_eq (key_cmp q p)) (sym (key_same k (key_of x) e)) ∙ apart in
    ap (λ ys. is_key_retired moment ys q) (cond-false _ (x ∷ rest) rest (not_from_true (has_key k x) e))
    ∙ any_lacking moment q k xs apart
    ∙ ap (λ b. (b && is_retired moment x) || is_key_retired moment xs q) (sym other))
    (λ e.
    ap (λ ys. is_key_retired moment ys q) (cond-true _ (x ∷ rest) rest (not_from_false (has_key k x) e))
    ∙ ap (λ b. (has_key q x && is_retired moment x) || b) (any_lacking moment q k xs apart))

-- no key is retired where no item is
none_left : (moment : ℕ) (k : ThingKey) (held : List Item) → is_key_retired moment (filter (λ item. not (is_retired moment item)) held) k ≡ false
none_left moment k [] = refl
none_left moment k (x ∷ xs) =
    let rest = filter (λ (item : Item). not (is_retired moment item)) xs in
    by_cases (is_retired moment x)
    (λ e. ap (λ ys. is_key_retired moment ys k) (cond-false _ (x ∷ rest) rest (not_from_true (is_retired moment x) e)) ∙ none_left moment k xs)
    (λ e.
    ap (λ ys. is_key_retired moment ys k) (cond-true _ (x ∷ rest) rest (not_from_false (is_retired moment x) e))
    ∙ or_from (has_key k x && is_retired moment x) (is_key_retired moment rest k) (and_right (has_key k x) (is_retired moment x) e) (none_left moment k xs))

none_retired : (moment : ℕ) (held : List Item) → filter (λ item. not (is_retired moment item)) held ≡ held → (k : ThingKey) → is_key_retired moment held k ≡ false
none_retired moment held all k = ap (λ ys. is_key_retired moment ys k) (sym all) ∙ none_left moment k held

-- ---- a key goes

module _ (moment : ℕ) (k : ThingKey) (held : List Item) (gone : is_key_retired moment held k ≡ true) where
  items_stay : items_left moment (filter (lacks_key k) held) ≡ items_left moment held
  items_stay =
      filter_both (λ (x : Item). not (is_key_retired moment held (key_of x))) (λ (x : Item). not (is_key_retired moment (filter (lacks_key k) held) (key_of x))) (lacks_key k)
      (λ x e. not_from_true (is_key_retired moment held (key_of x)) (ap (is_key_retired moment held) (sym (key_same k (key_of x) (not-false (has_key k x) e))) ∙ gone))
      (λ x e. ap not (any_lacking moment (key_of x) k held (apart_turned k (key_of x) (not-true (has_key k x) e))))
      held

or_false : (b : Bool) → (b || false) ≡ b
or_false true = refl
or_false false = refl

or_true : (b : Bool) → (b || true) ≡ true
or_true true = refl
or_true false = refl

-- .. of one of the tenants
module _ (moment : ℕ) (s : List ℕ) (k : ThingKey) (now after : List ℕ → List Item)
    (found : option_map_or (is_retired moment) (item_at k (now s)) false ≡ true)
    (less : (t : List ℕ) → after t ≡ (if same t s then filter (lacks_key k) (now t) else now t)) where
  retires : (t : List ℕ) → same t s ≡ true → is_key_retired moment (now t) k ≡ true
  retires t is =
      subst (λ u. is_key_retired moment (now u) k ≡ true) (sym (eq_from_same t s is)) (found_retired moment k (now s) found)

  pub still_left : (t : List ℕ) → items_left moment (after t) ≡ items_left moment (now t)
  still_left t =
      by_cases (same t s)
      (λ is. ap (items_left moment) (less t ∙ rw is refl) ∙ items_stay moment k (now t) (retires t is))
      (λ apart. ap (items_left moment) (less t ∙ rw apart refl))

  -- what went, and what is retired of what is left, are what was retired
  pub gone_more : (t : List ℕ) (q : ThingKey) (gone : List (List ℕ × ThingKey)) (all : Bool)
      → (is_gone t q gone || is_key_retired moment (now t) q) ≡ all
      → (is_gone t q (gone ++ (s, k) ∷ []) || is_key_retired moment (after t) q) ≡ all
  gone_more t q gone all before =
      let earlier = is_gone t q gone in
      ap (λ b. b || is_key_retired moment (after t) q) (any_last (λ g. same t g.0 && is_eq (key_cmp q g.1)) gone (s, k))
      ∙ by_cases (same t s)
      (λ is. by_cases (is_eq (key_cmp q k))
      (λ e.
      let was : is_key_retired moment (now t) q ≡ true =
      ap (is_key_retired moment (now t)) (key_same q k e) ∙ retires t is in
      ap (λ b. (earlier || b) || is_key_retired moment (after t) q) (ap (λ b. b && is_eq (key_cmp q k)) is ∙ e)
      ∙ ap (λ b. b || is_key_retired moment (after t) q) (or_true earlier)
      ∙ sym (or_true earlier) ∙ ap (λ b. earlier || b) (sym was) ∙ before)
      (λ e.
      ap (λ b. (earlier || b) || is_key_retired moment (after t) q) (ap (λ b. b && is_eq (key_cmp q k)) is ∙ e)
      ∙ ap (λ b. b || is_key_retired moment (after t) q) (or_false earlier)
      ∙ ap (λ xs. earlier || is_key_retired moment xs q) (less t ∙ rw is refl)
      ∙ ap (λ b. earlier || b) (any_lacking moment q k (now t) e) ∙ before))
      (λ apart.
      ap (λ b. (earlier || (b && is_eq (key_cmp q k))) || is_key_retired moment (after t) q) apart
      ∙ ap (λ b. b || is_key_retired moment (after t) q) (or_false earlier)
      ∙ ap (λ xs. earlier || is_key_retired moment xs q) (less t ∙ rw apart refl) ∙ before)

-- where nothing is retired, nothing goes
pub none_leaves : (moment : ℕ) (held : List Item) → filter (λ item. not (is_retired moment item)) held ≡ held
    → items_left moment held ≡ held
none_leaves moment held all =
    filter_all (λ (item : Item). not (is_key_retired moment held (key_of item)))
    (λ item. not_from_false (is_key_retired moment held (key_of item)) (none_retired moment held all (key_of item))) held

-- .. and all that was retired went
pub all_gone : (moment : ℕ) (held : List Item) (q : ThingKey) (gone all : Bool)
    → filter (λ item. not (is_retired moment item)) held ≡ held → (gone || is_key_retired moment held q) ≡ all → gone ≡ all
all_gone moment held q gone all none is =
    sym (or_false gone) ∙ ap (λ b. gone || b) (sym (none_retired moment held none q)) ∙ is
