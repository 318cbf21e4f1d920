-- What rows that were read and tested say of a table.
use Rattle.std.proofs.Common.{◌≡◌, inl, inr, ℕ, ◌+◌, ◌≤◌, ℤ, pos, true, false, List, [], ◌∷◌, length, map, drop, Option, None, refl, sym, ap, ap₂, subst, arith, ◌∙◌}
use Rattle.std.specs.List.{All, AllByRecursion, IsDistinct}
use Rattle.std.specs.List.Sorted.{IsPermutation}
use Rattle.std.proofs.lemmas.Bool.{and_parts, cases_lt, false≢true}
use Rattle.std.proofs.lemmas.List.{get_or_past}
use Rattle.std.proofs.lemmas.List.Elements.{recursion_from_All}
use Rattle.std.proofs.lemmas.List.Sorted.{All-permutation, IsPermutation-sym}
use Rattle.std.proofs.lemmas.Map.Keys.{IsDistinct-IsPermutation, IsDistinct-from_sorted, IsDistinct-head, IsDistinct-tail}
use Rattle.sqlite_value.specs.Order.{value_cmp}
use Rattle.sqlite.specs.declared.types.Value.TheVariants.{Int, Null}
use Rattle.sqlite.specs.Edit.{is_taken}
use Rattle.sqlite.specs.Effect.{Database, IsDatabase}
use Rattle.sqlite.specs.Order.{Row, column}
use Rattle.sqlite.specs.Term.{eval_all}
use Rattle.sqlite.specs.Tree.{rowid}
use Rattle.sqlite_schema.specs.declared.schema.Column.{Column}
use Rattle.sqlite_schema.specs.declared.schema.Constraint.TheVariants.{Datatype}
use Rattle.sqlite_schema.specs.Rules.{are_typed}
use Rattle.am_store.specs.Apart.{AreApart}
use Rattle.am_store.specs.Opening.{AreRising, AreRowsOf, IsVersionRow}
use Rattle.am_store.specs.Rows.{IsConfig, IsSilenceRow}
use Rattle.am_store.specs.Tables.{config, silence, store_schema, version}
use Rattle.am_store.specs.Where.{columns2, columns7, columns13}
use Rattle.am_store.proofs.Readings.{by_columns}
use Rattle.am_store.proofs.RowLists.{all_weaker, same_id, same_id-sym}

-- ---- rows have a value for each column

typed_long : (key : Option ℕ) (at : ℕ) (cs : List Column) (vs : Row) → are_typed key at cs vs ≡ true → length vs ≤ length cs
typed_long key at [] [] h = omega arith
typed_long key at [] (v ∷ vs) h = absurd (false≢true h)
typed_long key at (c ∷ cs) [] h = omega arith
typed_long key at (c ∷ cs) (v ∷ vs) h = let rest = typed_long key (at + 1) cs vs (and_parts _ _ h).1 in omega (arith, rest)

long_row : (row : Row) (n : ℕ) (k : ℤ) → length (drop 1 row) ≤ n → column row n ≡ Int k → length row ≡ n + 1
long_row [] n k short last = absurd (let e = sym (get_or_past [] n Null (omega arith)) ∙ last in cc)
long_row (v ∷ row) n k short last = elim (cases_lt n (length (v ∷ row))) [
  | inl within ↦ omega (arith, within, short)
  | inr past ↦ absurd (let e = sym (get_or_past (v ∷ row) n Null past) ∙ last in cc)
]

module _ (db : Database) (sound : IsDatabase db) (has : db.schema ≡ store_schema) where
  pub versions_short : AllByRecursion (λ r. length (drop 1 r) ≤ 1) (db.trees 0)
  versions_short = all_weaker _ _ (λ r h. typed_long None 0 (version 0).columns (drop 1 r) (and_parts (are_typed None 0 (version 0).columns (drop 1 r)) true h).0) (db.trees 0) (rw has at sound.obeys.rules Datatype).0

  pub configs_short : AllByRecursion (λ r. length (drop 1 r) ≤ 6) (db.trees 1)
  configs_short = all_weaker _ _ (λ r h. typed_long None 0 (config 0).columns (drop 1 r) (and_parts (are_typed None 0 (config 0).columns (drop 1 r)) true h).0) (db.trees 1) (rw has at sound.obeys.rules Datatype).1.0

  pub silences_short : AllByRecursion (λ r. length (drop 1 r) ≤ 12) (db.trees 3)
  silences_short = all_weaker _ _ (λ r h. typed_long None 0 (silence 0).columns (drop 1 r) (and_parts (are_typed None 0 (silence 0).columns (drop 1 r)) true h).0) (db.trees 3) (rw has at sound.obeys.rules Datatype).1.1.0

pub config_shown : (row : Row) → length (drop 1 row) ≤ 6 → IsConfig (eval_all columns7 ([] ∷ row ∷ [])) → eval_all columns7 ([] ∷ row ∷ []) ≡ row
config_shown row short is = sym (by_columns row 7 (long_row row 6 (pos is.stamp.count) short (ap (λ r. column r 6) is.is)))

pub silence_shown : (row : Row) → length (drop 1 row) ≤ 12 → IsSilenceRow (eval_all columns13 ([] ∷ row ∷ [])) → eval_all columns13 ([] ∷ row ∷ []) ≡ row
silence_shown row short is = sym (by_columns row 13 (long_row row 12 (pos is.stamp.count) short (ap (λ r. column r 12) is.is)))

pub version_shown : (row : Row) → length (drop 1 row) ≤ 1 → IsVersionRow (eval_all columns2 ([] ∷ row ∷ [])) → row ≡ eval_all columns2 ([] ∷ row ∷ [])
version_shown row short is = by_columns row 2 (long_row row 1 (pos 1) short is.number)

-- ---- rowids

apart_from_distinct : (rows : List Row) → IsDistinct same_id rows → AreApart rows
apart_from_distinct [] h = tt
apart_from_distinct (r ∷ rs) h = (none_taken r rs (IsDistinct-head same_id r rs h), apart_from_distinct rs (IsDistinct-tail same_id r rs h))
  where
    none_taken : (r : Row) (rs : List Row) → AllByRecursion (λ s. same_id r s ≡ false) rs → is_taken rs r ≡ false
    none_taken r [] all = refl
    none_taken r (s ∷ rs) all = rw (same_id-sym s r ∙ all.0) (none_taken r rs all.1)

rising_apart : (rows : List Row) → AreRising rows → IsDistinct same_id rows
rising_apart rows rising = IsDistinct-from_sorted (λ a b. value_cmp (rowid a) (rowid b)) rows rising

-- ---- whole tables

module _ (Is : Row → Type 0) (f : Row → Row) (short : Row → Type 0) (whole : (r : Row) → short r → Is (f r) → f r ≡ r) where
  all_whole : (tree : List Row) → AllByRecursion short tree → AllByRecursion Is (map f tree) → map f tree ≡ tree
  all_whole [] short all = refl
  all_whole (r ∷ rs) short all = ap₂ (λ y ys. y ∷ ys) (whole r short.0 all.0) (all_whole rs short.1 all.1)

  pub are_rows : (tree rows : List Row) → AllByRecursion short tree → IsPermutation (map f tree) rows → All Is rows → AreRising rows → AreRowsOf Is tree
  are_rows tree rows shorts seen all rising =
      let back = IsPermutation-sym (map f tree) rows seen in
      let each = recursion_from_All Is (map f tree) (All-permutation Is rows (map f tree) back all) in
      let same = all_whole tree shorts each in
      (subst (AllByRecursion Is) same each, subst AreApart same (apart_from_distinct (map f tree) (IsDistinct-IsPermutation same_id same_id-sym rows (map f tree) back (rising_apart rows rising))))
