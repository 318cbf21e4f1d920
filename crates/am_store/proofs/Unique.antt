-- No key comes twice in the tables of a store.
use Rattle.std.proofs.Common.{◌≡◌, inl, inr, ℕ, ◌≤◌, ℤ, Bool, true, false, ◌&&◌, List, [], ◌∷◌, length, arith, refl, sym, ap, ap₂, ◌∙◌}
use Rattle.std.specs.List.{AllByRecursion, IsDistinct, filter}
use Rattle.std.specs.Ordering.{is_eq, is_ne}
use Rattle.std.specs.declared.cmp.Ordering.{Ordering}
use Rattle.std.specs.declared.cmp.Ordering.TheVariants.{Less, Equal, Greater}
use Rattle.std.proofs.lemmas.Bool.{and_parts, cases_Bool, not-true, true≢false}
use Rattle.sqlite_value.proofs.OrderLemmas.{value_cmp-Text}
use Rattle.sqlite_value.specs.Keys.{first_key, plain}
use Rattle.sqlite_value.specs.Order.{value_cmp}
use Rattle.sqlite.specs.Collation.TheVariants.{Binary}
use Rattle.sqlite.specs.declared.types.Value.TheVariants.{Int, Text}
use Rattle.sqlite.specs.Effect.{Database, IsDatabase}
use Rattle.sqlite.specs.Ops.{binary}
use Rattle.sqlite.specs.Order.{Row, column}
use Rattle.sqlite.specs.Tree.{rowid}
use Rattle.sqlite_schema.specs.declared.schema.Constraint.TheVariants.{Unique}
use Rattle.sqlite_schema.specs.Rules.{agree, clashes, differ, equal}
use Rattle.am_tenant.specs.Names.{same}
use Rattle.am_tenant.proofs.Same.{eq_from_same, is_eq-name_cmp, same-refl}
use Rattle.am_store.specs.Apart.{AreApart, HasId}
use Rattle.am_store.specs.Rows.{IsConfig, IsSilenceRow, id_text}
use Rattle.am_store.specs.Tables.{store_schema}
use Rattle.am_store.specs.Where.{hit, of_tenant}
use Rattle.am_store.proofs.Latest.{Pair}
use Rattle.am_store.proofs.Ordered.{same_at}
use Rattle.am_store.proofs.RowLists.{all_filter, all_weaker, apart_filter, none_passes, same_id}
use Rattle.am_store.proofs.Spelled.{config_id, config_of_tenant, config_says, silence_id, silence_of_tenant, silence_says, truth_is}

-- ---- rows that differ in their rowids

module _ (Is : Row → Type 0) (P : Row → Row → Type 0) (test : Row → Row → Bool) (apart : (r o : Row) → Is r → Is o → same_id o r ≡ false → P o r → test r o ≡ false) where
  one_apart : (r : Row) (rows : List Row) → Is r → AllByRecursion Is rows → AllByRecursion (λ o. same_id o r ≡ false) rows → AllByRecursion (λ o. P o r) rows
      → AllByRecursion (λ o. test r o ≡ false) rows
  one_apart r [] is all ids pairs = tt
  one_apart r (o ∷ os) is all ids pairs = (apart r o is all.0 ids.0 pairs.0, one_apart r os is all.1 ids.1 pairs.1)

  all_apart : (rows : List Row) → AllByRecursion Is rows → AreApart rows → AllByRecursion (λ r. AllByRecursion (λ o. P o r) rows) rows → IsDistinct test rows
  unfolding IsDistinct
  all_apart [] all ids pairs = tt
  all_apart (r ∷ rs) all ids pairs = (
    one_apart r rs all.0 all.1 (none_passes (λ o. same_id o r) rs ids.0) pairs.0.1,
    all_apart rs all.1 ids.1 (all_weaker (λ s. AllByRecursion (λ o. P o s) (r ∷ rs)) (λ s. AllByRecursion (λ o. P o s) rs) (λ s h. h.1) rs pairs.1),
  )

-- rows that a test finds pass it
all_found : (Is : Row → Type 0) (p : Row → Bool) (rows : List Row) → AllByRecursion Is rows → AllByRecursion (λ r. Is r × (p r ≡ true)) (filter p rows)
all_found Is p [] all = tt
all_found Is p (r ∷ rs) all = elim (cases_Bool (p r)) [
  | inl hit ↦ rw hit ((all.0, hit), all_found Is p rs all.1)
  | inr none ↦ rw none (all_found Is p rs all.1)
]

-- no other row of the table has the key
abbrev IsAlone : List ℕ → Row → Row → Type 0
IsAlone places o r = (agree plain places o places r && differ (rowid o) (rowid r)) ≡ false

alone : (places : List ℕ) (rows : List Row) → AllByRecursion (λ r. clashes plain places rows r ≡ false) rows → AllByRecursion (λ r. AllByRecursion (λ o. IsAlone places o r) rows) rows
alone places rows none = all_weaker (λ r. clashes plain places rows r ≡ false) _ (λ r e. none_passes (λ o. agree plain places o places r && differ (rowid o) (rowid r)) rows e) rows none

module _ (db : Database) (sound : IsDatabase db) (has : db.schema ≡ store_schema) where
  configs_alone : AllByRecursion (λ r. clashes plain (1 ∷ []) (db.trees 1) r ≡ false) (db.trees 1)
  configs_alone = all_weaker _ _ (λ r h. not-true _ (and_parts _ true h).0) (db.trees 1) (rw has at sound.obeys.rules Unique).1.0

  silences_alone : AllByRecursion (λ r. clashes plain (1 ∷ 2 ∷ []) (db.trees 3) r ≡ false) (db.trees 3)
  silences_alone = all_weaker _ _ (λ r h. not-true _ (and_parts _ true h).0) (db.trees 3) (rw has at sound.obeys.rules Unique).1.1.0

-- ---- values that are compared

ne_from : (o : Ordering) → is_eq o ≡ false → is_ne o ≡ true
ne_from Less e = refl
ne_from Equal e = absurd (true≢false e)
ne_from Greater e = refl

numbers_differ : (m n : ℤ) → is_eq (value_cmp (Int m) (Int n)) ≡ false → differ (Int m) (Int n) ≡ true
unfolding binary
numbers_differ m n apart = truth_is _ ∙ ne_from (value_cmp (Int m) (Int n)) apart

ids_differ : (o r : Row) → HasId o → HasId r → same_id o r ≡ false → differ (rowid o) (rowid r) ≡ true
ids_differ o r one two apart =
    ap₂ differ one.1 two.1 ∙ numbers_differ one.0 two.0 (sym (ap₂ (λ a b. is_eq (value_cmp a b)) one.1 two.1) ∙ apart)

texts_equal : (t : List ℕ) → equal Binary (Text t) (Text t) ≡ true
unfolding binary
texts_equal t = truth_is _ ∙ ap is_eq (value_cmp-Text t t) ∙ is_eq-name_cmp t t ∙ same-refl t

columns_equal : (o r : Row) (at : ℕ) (t : List ℕ) → column o at ≡ Text t → column r at ≡ Text t → equal Binary (column o at) (column r at) ≡ true
columns_equal o r at t one two = ap₂ (equal Binary) one two ∙ texts_equal t

agree_one : (o r : Row) (t : List ℕ) → column o 1 ≡ Text t → column r 1 ≡ Text t → agree plain (1 ∷ []) o (1 ∷ []) r ≡ true
unfolding first_key
agree_one o r t one two = ap (λ b. b && true) (columns_equal o r 1 t one two)

agree_both : (o r : Row) (t u : List ℕ) → column o 1 ≡ Text t → column r 1 ≡ Text t → column o 2 ≡ Text u → column r 2 ≡ Text u → agree plain (1 ∷ 2 ∷ []) o (1 ∷ 2 ∷ []) r ≡ true
unfolding first_key
agree_both o r t u one two three four = ap₂ (λ a b. a && (b && true)) (columns_equal o r 1 t one two) (columns_equal o r 2 u three four)

clash : (a b : Bool) → a ≡ true → b ≡ true → (a && b) ≡ false → true ≡ false
clash a b one two none = sym (ap₂ (λ x y. x && y) one two) ∙ none

-- ---- the rows of a tenant

module _ (t : List ℕ) where
  abbrev found : Row → Bool
  found row = hit of_tenant (Text t ∷ []) row

  config_column : (row : Row) → IsConfig row → found row ≡ true → column row 1 ≡ Text t
  config_column row is hit =
      ap (λ r. column r 1) is.is ∙ ap Text (sym (eq_from_same t is.tenant (sym (config_of_tenant row is t ∙ ap (λ (p : Pair). same t p.0) (config_says row is)) ∙ hit)))

  silence_column : (row : Row) → IsSilenceRow row → found row ≡ true → column row 1 ≡ Text t
  silence_column row is hit =
      ap (λ r. column r 1) is.is ∙ ap Text (sym (eq_from_same t is.tenant (sym (silence_of_tenant row is t ∙ ap (λ (p : Pair). same t p.0) (silence_says row is)) ∙ hit)))

  silence_name : (row : Row) (is : IsSilenceRow row) → column row 2 ≡ Text (id_text is.silence.id)
  silence_name row is = ap (λ r. column r 2) is.is

  module _ (db : Database) (sound : IsDatabase db) (has : db.schema ≡ store_schema) where
    pairs_found : (places : List ℕ) (rows : List Row) → AllByRecursion (λ r. clashes plain places rows r ≡ false) rows
        → AllByRecursion (λ r. AllByRecursion (λ o. IsAlone places o r) (filter found rows)) (filter found rows)
    pairs_found places rows none =
        all_filter (λ r. AllByRecursion (λ o. IsAlone places o r) (filter found rows)) found rows
        (all_weaker (λ r. AllByRecursion (λ o. IsAlone places o r) rows) _ (λ r h. all_filter (λ o. IsAlone places o r) found rows h) rows (alone places rows none))

    few : (rows : List Row) → IsDistinct (λ r o. true) rows → length rows ≤ 1
    unfolding IsDistinct
    few [] none = omega arith
    few (r ∷ []) none = omega arith
    few (r ∷ o ∷ rows) none = absurd (true≢false none.0.0)

    pub one_config : AllByRecursion IsConfig (db.trees 1) → AreApart (db.trees 1) → length (filter found (db.trees 1)) ≤ 1
    one_config all ids =
        few (filter found (db.trees 1))
        (all_apart (λ r. IsConfig r × (found r ≡ true)) (IsAlone (1 ∷ [])) (λ r o. true)
        (λ r o is other apart pair. clash _ _ (agree_one o r t (config_column o other.0 other.1) (config_column r is.0 is.1)) (ids_differ o r (config_id o other.0) (config_id r is.0) apart) pair)
        (filter found (db.trees 1)) (all_found IsConfig found (db.trees 1) all) (apart_filter found (db.trees 1) ids) (pairs_found (1 ∷ []) (db.trees 1) (configs_alone db sound has)))

    names_apart : (r o : Row) → IsSilenceRow r × (found r ≡ true) → IsSilenceRow o × (found o ≡ true) → same_id o r ≡ false → IsAlone (1 ∷ 2 ∷ []) o r → same_at 2 r o ≡ false
    names_apart r o is other apart pair = elim (cases_Bool (same_at 2 r o)) [
      | inr differs ↦ differs
      | inl tied ↦
          let a = id_text is.0.silence.id in
          let b = id_text other.0.silence.id in
          let texts : same a b ≡ true =
          sym (is_eq-name_cmp a b) ∙ ap is_eq (sym (value_cmp-Text a b)) ∙ sym (ap₂ (λ v w. is_eq (value_cmp v w)) (silence_name r is.0) (silence_name o other.0)) ∙ tied in
          let one : column o 2 ≡ Text a = silence_name o other.0 ∙ ap Text (sym (eq_from_same a b texts)) in
          absurd (true≢false (clash _ _ (agree_both o r t a (silence_column o other.0 other.1) (silence_column r is.0 is.1) one (silence_name r is.0)) (ids_differ o r (silence_id o other.0) (silence_id r is.0) apart) pair))
    ]

    pub silences_apart : AllByRecursion IsSilenceRow (db.trees 3) → AreApart (db.trees 3) → IsDistinct (same_at 2) (filter found (db.trees 3))
    silences_apart all ids =
        all_apart (λ r. IsSilenceRow r × (found r ≡ true)) (IsAlone (1 ∷ 2 ∷ [])) (same_at 2) names_apart
        (filter found (db.trees 3)) (all_found IsSilenceRow found (db.trees 3) all) (apart_filter found (db.trees 3) ids) (pairs_found (1 ∷ 2 ∷ []) (db.trees 3) (silences_alone db sound has))
