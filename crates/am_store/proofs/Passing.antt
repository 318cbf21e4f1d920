-- A store passes the tests of its opening.
use Rattle.std.proofs.Common.{◌≡◌, pos, List, [], ◌∷◌, length, map, false, refl, sym, ap, ap₂, subst, ◌∙◌}
use Rattle.std.specs.List.{All, AllByRecursion, IsDistinct}
use Rattle.std.specs.List.Sorted.{IsPermutation}
use Rattle.std.proofs.lemmas.List.Elements.{All-from_recursion, recursion_from_All}
use Rattle.std.proofs.lemmas.List.Sorted.{All-permutation}
use Rattle.std.proofs.lemmas.Map.Keys.{IsDistinct-IsPermutation}
use Rattle.sqlite.specs.declared.types.Value.TheVariants.{Int, Null}
use Rattle.sqlite.specs.Order.{Row}
use Rattle.sqlite.specs.State.{Shown, State}
use Rattle.sqlite.specs.Term.{eval_all}
use Rattle.sqlite.specs.Program.{overlay}
use Rattle.sqlite.proofs.Callers.{one_permutation, reads_as}
use Rattle.am_store.specs.Apart.{AreApart, HasId}
use Rattle.am_store.specs.Opening.{AreRising}
use Rattle.am_store.specs.Rows.{IsConfig, IsSilenceRow, IsStore}
use Rattle.am_store.specs.Tables.{store_schema}
use Rattle.am_store.specs.Texts.{select_all_configs, select_all_silences, select_version}
use Rattle.am_store.specs.Where.{columns2, columns7, columns13}
use Rattle.am_store.proofs.Checks.{all_pass}
use Rattle.am_store.proofs.CompiledOpening.{by_rowid, select_all_configs_is, select_all_configs_plain, select_all_configs_unlisted, select_all_silences_is, select_all_silences_plain, select_all_silences_unlisted, select_version_is, select_version_plain, select_version_unlisted}
use Rattle.am_store.proofs.Ordered.{rising_answer}
use Rattle.am_store.proofs.Readings.{by_columns}
use Rattle.am_store.proofs.RowLists.{all_weaker, none_passes, same_id, same_id-sym}
use Rattle.am_store.proofs.Spelled.{config_id, silence_id}
use Rattle.am_store.proofs.Statements.{reads}

-- ---- what the queries show of a store

distinct_from_apart : (rows : List Row) → AreApart rows → IsDistinct same_id rows
unfolding IsDistinct
distinct_from_apart [] apart = tt
distinct_from_apart (r ∷ rs) apart = (all_weaker (λ s. same_id s r ≡ false) (λ s. same_id r s ≡ false) (λ s e. same_id-sym r s ∙ e) rs (none_passes (λ s. same_id s r) rs apart.0), distinct_from_apart rs apart.1)

module _ (Is : Row → Type 0) (f : Row → Row) (whole : (r : Row) → Is r → f r ≡ r) where
  shown_whole : (rows : List Row) → AllByRecursion Is rows → map f rows ≡ rows
  shown_whole [] all = refl
  shown_whole (r ∷ rs) all = ap₂ (λ y ys. y ∷ ys) (whole r all.0) (shown_whole rs all.1)

all_have_ids : (Is : Row → Type 0) → ((r : Row) → Is r → HasId r) → (rows : List Row) → All Is rows → All HasId rows
all_have_ids Is id rows all = All-from_recursion HasId rows (all_weaker Is HasId id rows (recursion_from_All Is rows all))

-- the rows are of this kind, and their rowids rise
pub record ArePassed (Is : Row → Type 0) (rows : List Row) : Type 0 where
  pub all : All Is rows
  pub ids : All HasId rows
  pub rising : AreRising rows

module _ (old new : State) (store : IsStore old.now) (rows : List Row) where
  pub version_passes : Shown select_version [] old new rows → rows ≡ (Int store.version.0 ∷ Int (pos 1) ∷ []) ∷ []
  version_passes shown =
      let tree = old.now.trees 0 in
      let f : Row → Row = λ r. eval_all columns2 ([] ∷ r ∷ []) in
      let seen : IsPermutation (map f tree) rows =
      subst (λ xs. IsPermutation (map f xs) rows) (all_pass tree) (reads 0 [] columns2 [] [] select_version _ old new rows store.schema select_version_is select_version_plain select_version_unlisted refl shown) in
      one_permutation (Int store.version.0 ∷ Int (pos 1) ∷ []) rows (subst (λ xs. IsPermutation (map f xs) rows) store.version.1 seen)

  pub configs_pass : Shown select_all_configs [] old new rows → ArePassed IsConfig rows
  configs_pass shown =
      let tree = old.now.trees 1 in
      let f : Row → Row = λ r. eval_all columns7 ([] ∷ r ∷ []) in
      let seen : IsPermutation (map f tree) rows =
      subst (λ xs. IsPermutation (map f xs) rows) (all_pass tree) (reads 1 [] columns7 by_rowid [] select_all_configs _ old new rows store.schema select_all_configs_is select_all_configs_plain select_all_configs_unlisted refl shown) in
      let same = subst (λ xs. IsPermutation xs rows) (shown_whole IsConfig f (λ r is. sym (by_columns r 7 (ap length is.is))) tree store.configs) seen in
      let all = All-permutation IsConfig tree rows same (All-from_recursion IsConfig tree store.configs) in
      let answer = (reads_as select_all_configs [] old new store_schema store.schema _ select_all_configs_is select_all_configs_plain select_all_configs_unlisted rows shown).answer Null in
      let apart = IsDistinct-IsPermutation same_id same_id-sym tree rows same (distinct_from_apart tree store.configs_apart) in
      record { all = all; ids = all_have_ids IsConfig config_id rows all; rising = rising_answer 1 [] columns7 0 (λ env. refl) (overlay old.now.trees []) [] rows answer apart }

  pub silences_pass : Shown select_all_silences [] old new rows → ArePassed IsSilenceRow rows
  silences_pass shown =
      let tree = old.now.trees 3 in
      let f : Row → Row = λ r. eval_all columns13 ([] ∷ r ∷ []) in
      let seen : IsPermutation (map f tree) rows =
      subst (λ xs. IsPermutation (map f xs) rows) (all_pass tree) (reads 3 [] columns13 by_rowid [] select_all_silences _ old new rows store.schema select_all_silences_is select_all_silences_plain select_all_silences_unlisted refl shown) in
      let same = subst (λ xs. IsPermutation xs rows) (shown_whole IsSilenceRow f (λ r is. sym (by_columns r 13 (ap length is.is))) tree store.silences) seen in
      let all = All-permutation IsSilenceRow tree rows same (All-from_recursion IsSilenceRow tree store.silences) in
      let answer = (reads_as select_all_silences [] old new store_schema store.schema _ select_all_silences_is select_all_silences_plain select_all_silences_unlisted rows shown).answer Null in
      let apart = IsDistinct-IsPermutation same_id same_id-sym tree rows same (distinct_from_apart tree store.silences_apart) in
      record { all = all; ids = all_have_ids IsSilenceRow silence_id rows all; rising = rising_answer 3 [] columns13 0 (λ env. refl) (overlay old.now.trees []) [] rows answer apart }
