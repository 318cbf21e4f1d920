-- What the queries of the opening show of a database with the tables of a store.
use Rattle.std.proofs.Common.{◌≡◌, pos, List, [], ◌∷◌, drop, get_or, length, map, arith, refl, sym, ap, ap₂, subst, ◌∙◌, true, ◌≤◌, ℕ}
use Rattle.std.specs.List.{All, filter}
use Rattle.std.specs.List.Sorted.{IsPermutation}
use Rattle.std.proofs.lemmas.List.Sorted.{IsPermutation-sym}
use Rattle.sqlite.specs.declared.types.Value.TheVariants.{Int}
use Rattle.sqlite.specs.Effect.{Database, IsDatabase}
use Rattle.sqlite.specs.Listing.{understood}
use Rattle.sqlite.specs.Order.{Row, column}
use Rattle.sqlite.specs.State.{IsLive, IsUnchanged, Shown, State}
use Rattle.sqlite.specs.Term.{eval_all}
use Rattle.sqlite.proofs.Callers.{IsPlain, one_permutation, unchanged_then}
use Rattle.am_store.specs.Opening.{AreRising, AreRowsOf, HasVersion, IsVersionRow}
use Rattle.am_store.specs.Rows.{IsConfig, IsSilenceRow, IsStore}
use Rattle.am_store.specs.Tables.{store_schema}
use Rattle.am_store.specs.Texts.{select_all_configs, select_all_silences, select_version}
use Rattle.am_store.specs.Where.{columns2, columns7, columns13}
use Rattle.am_store.proofs.Calls.{shown_unchanged}
use Rattle.am_store.proofs.CompiledOpening.{by_rowid, select_all_configs_is, select_all_configs_plain, select_all_configs_unlisted, select_all_silences_is, select_all_silences_plain, select_all_silences_unlisted, select_version_is, select_version_plain, select_version_unlisted}
use Rattle.am_store.proofs.Statements.{reads}
use Rattle.am_store.proofs.Tested.{are_rows, config_shown, configs_short, silence_shown, silences_short, version_shown, versions_short}

pub all_pass : {X : Type 0} (xs : List X) → filter (λ x. true) xs ≡ xs
all_pass [] = refl
all_pass (x ∷ xs) = ap (λ ys. x ∷ ys) (all_pass xs)

-- one is shown, so one is there
one_shown : {X Y : Type 0} (f : X → Y) (xs : List X) (y : Y) → map f xs ≡ y ∷ [] → (x : X) × (xs ≡ x ∷ []) × (f x ≡ y)
one_shown f [] y e = absurd (let no = e in cc)
one_shown f (x ∷ []) y e = (x, refl, let same = e in cc)
one_shown f (x ∷ z ∷ xs) y e = absurd (let no = e in cc)

pub plain_at : (old : State) (sql : List ℕ) → old.now.schema ≡ store_schema → IsPlain (understood store_schema sql) → IsPlain (understood old.now.schema sql)
plain_at old sql has bare = subst (λ s. IsPlain (understood s sql)) (sym has) bare

pub single : {X : Type 0} (xs : List X) (y : X) → length xs ≡ 1 → y ≡ get_or xs 0 y → xs ≡ y ∷ []
single [] y long is = absurd (omega arith)
single (x ∷ []) y long is = ap (λ z. z ∷ []) (sym is)
single (x ∷ z ∷ xs) y long is = absurd (omega arith)

module _ (old new : State) (has : old.now.schema ≡ store_schema) (rows : List Row) where
  abbrev seen2 : Row → Row
  seen2 r = eval_all columns2 ([] ∷ r ∷ [])

  abbrev seen7 : Row → Row
  seen7 r = eval_all columns7 ([] ∷ r ∷ [])

  abbrev seen13 : Row → Row
  seen13 r = eval_all columns13 ([] ∷ r ∷ [])

  pub version_checked : (row : Row) → Shown select_version [] old new rows → rows ≡ row ∷ [] → IsVersionRow row → IsUnchanged old new × (IsDatabase old.now → HasVersion old.now.trees)
  version_checked row shown one is =
      let seen : IsPermutation (map seen2 (old.now.trees 0)) rows =
      subst (λ xs. IsPermutation (map seen2 xs) rows) (all_pass (old.now.trees 0)) (reads 0 [] columns2 [] [] select_version _ old new rows has select_version_is select_version_plain select_version_unlisted refl shown) in
      let there = one_shown seen2 (old.now.trees 0) row (one_permutation row (map seen2 (old.now.trees 0)) (IsPermutation-sym _ _ (subst (IsPermutation (map seen2 (old.now.trees 0))) one seen))) in (
        shown_unchanged old new select_version [] (plain_at old select_version has select_version_plain) rows shown,
        λ sound.
            let short : length (drop 1 there.0) ≤ 1 = (rw there.1 at (versions_short old.now sound has)).0 in
            let whole : there.0 ≡ row = version_shown there.0 short (subst IsVersionRow (sym there.2) is) ∙ there.2 in
            let first : column there.0 0 ≡ Int is.id = ap (λ r. column r 0) whole ∙ is.id_is in
            let second : column there.0 1 ≡ Int (pos 1) = ap (λ r. column r 1) whole ∙ is.number in
            (is.id, there.1 ∙ ap (λ r. r ∷ []) (version_shown there.0 short (subst IsVersionRow (sym there.2) is) ∙ ap₂ (λ a b. a ∷ b ∷ []) first second)),
      )

  pub configs_checked : Shown select_all_configs [] old new rows → All IsConfig rows → AreRising rows → IsUnchanged old new × (IsDatabase old.now → AreRowsOf IsConfig (old.now.trees 1))
  configs_checked shown all rising =
      let seen : IsPermutation (map seen7 (old.now.trees 1)) rows =
      subst (λ xs. IsPermutation (map seen7 xs) rows) (all_pass (old.now.trees 1))
      (reads 1 [] columns7 by_rowid [] select_all_configs _ old new rows has select_all_configs_is select_all_configs_plain select_all_configs_unlisted refl shown) in (
        shown_unchanged old new select_all_configs [] (plain_at old select_all_configs has select_all_configs_plain) rows shown,
        λ sound. are_rows IsConfig seen7 (λ r. length (drop 1 r) ≤ 6) config_shown (old.now.trees 1) rows (configs_short old.now sound has) seen all rising,
      )

  pub silences_checked : Shown select_all_silences [] old new rows → All IsSilenceRow rows → AreRising rows → IsUnchanged old new × (IsDatabase old.now → AreRowsOf IsSilenceRow (old.now.trees 3))
  silences_checked shown all rising =
      let seen : IsPermutation (map seen13 (old.now.trees 3)) rows =
      subst (λ xs. IsPermutation (map seen13 xs) rows) (all_pass (old.now.trees 3))
      (reads 3 [] columns13 by_rowid [] select_all_silences _ old new rows has select_all_silences_is select_all_silences_plain select_all_silences_unlisted refl shown) in (
        shown_unchanged old new select_all_silences [] (plain_at old select_all_silences has select_all_silences_plain) rows shown,
        λ sound. are_rows IsSilenceRow seen13 (λ r. length (drop 1 r) ≤ 12) silence_shown (old.now.trees 3) rows (silences_short old.now sound has) seen all rising,
      )

-- all tests were passed, one after the other
pub all_checked : (a b c d : State) → a.now.schema ≡ store_schema → IsLive a → IsUnchanged a b × (IsDatabase a.now → HasVersion a.now.trees)
    → IsUnchanged b c × (IsDatabase b.now → AreRowsOf IsConfig (b.now.trees 1)) → IsUnchanged c d × (IsDatabase c.now → AreRowsOf IsSilenceRow (c.now.trees 3)) → IsStore a.now × IsUnchanged a d
all_checked a b c d has live one two three =
    let sound : IsDatabase a.now = (live one.0.0.was_open).0 in
    let at_b : b.now ≡ a.now = one.0.0.now_is in
    let at_c : c.now ≡ a.now = two.0.0.now_is ∙ at_b in
    let configs = subst (λ (db : Database). AreRowsOf IsConfig (db.trees 1)) at_b (two.1 (subst IsDatabase (sym at_b) sound)) in
    let silences = subst (λ (db : Database). AreRowsOf IsSilenceRow (db.trees 3)) at_c (three.1 (subst IsDatabase (sym at_c) sound)) in (
      record { schema = has; version = one.1 sound; configs = configs.0; configs_apart = configs.1; silences = silences.0; silences_apart = silences.1 },
      unchanged_then a c d (unchanged_then a b c one.0 two.0) three.0,
    )
