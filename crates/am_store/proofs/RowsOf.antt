-- What is read of a tenant's rows.
use Rattle.std.proofs.Common.{◌≡◌, ℕ, ◌+◌, ◌<◌, List, [], ◌∷◌, ◌++◌, length, map, take, get_or, Some, append_assoc, refl, sym, ap, ap₂, subst, ◌∙◌}
use Rattle.std.specs.List.{AllByRecursion, cons_option, filter}
use Rattle.std.specs.List.Sorted.{IsPermutation}
use Rattle.std.proofs.lemmas.List.{take_more, map-append}
use Rattle.std.proofs.lemmas.List.Elements.{filter-append, filter_map-append}
use Rattle.std.proofs.lemmas.List.Sorted.{IsPermutation-append, IsPermutation-map}
use Rattle.sqlite_trees.proofs.ListLemmas.{filter-map, map-map}
use Rattle.sqlite.specs.declared.types.Value.TheVariants.{Text}
use Rattle.sqlite.specs.Order.{Row}
use Rattle.sqlite.specs.Term.{eval_all}
use Rattle.sqlite.specs.Effect.{Database}
use Rattle.sqlite.specs.State.{IsUnchanged, Shown, State}
use Rattle.am_tenant.specs.Names.{same}
use Rattle.am_item.specs.declared.item.Item.{Item}
use Rattle.am_share.specs.Pairs.{things_of}
use Rattle.am_store.specs.Rows.{IsConfig, IsSilenceRow, IsStore, config_in, pairs_in, silence_in}
use Rattle.am_store.specs.Stored.{Stored, stored_item, stored_items}
use Rattle.am_store.specs.Texts.{select_config, select_silences}
use Rattle.am_store.specs.Where.{columns7, columns13, hit, of_tenant}
use Rattle.am_store.proofs.Calls.{at_store, shown_unchanged}
use Rattle.am_store.proofs.Compiled.{by_id, select_config_is, select_config_plain, select_config_unlisted, select_silences_is, select_silences_plain, select_silences_unlisted}
use Rattle.am_store.proofs.RowLists.{all_filter, all_weaker, filter_within}
use Rattle.am_store.proofs.Latest.{Pair}
use Rattle.am_store.proofs.Spelled.{config_of_tenant, silence_of_tenant}
use Rattle.am_store.proofs.Statements.{reads}

-- rows are shown whole
config_whole : (params : Row) (row : Row) → IsConfig row → eval_all columns7 (params ∷ row ∷ []) ≡ row
config_whole params row is = subst (λ r. eval_all columns7 (params ∷ r ∷ []) ≡ r) (sym is.is) refl

silence_whole : (params : Row) (row : Row) → IsSilenceRow row → eval_all columns13 (params ∷ row ∷ []) ≡ row
silence_whole params row is = subst (λ r. eval_all columns13 (params ∷ r ∷ []) ≡ r) (sym is.is) refl

map_whole : {X : Type 0} (P : X → Type 0) (f : X → X) → ((x : X) → P x → f x ≡ x) → (xs : List X) → AllByRecursion P xs → map f xs ≡ xs
map_whole P f whole [] all = refl
map_whole P f whole (x ∷ xs) all = ap₂ (λ y ys. y ∷ ys) (whole x all.0) (map_whole P f whole xs all.1)

module _ (old new : State) (store : IsStore old.now) (t : List ℕ) (rows : List Row) where
  pub configs_shown : Shown select_config (Text t ∷ []) old new rows → IsUnchanged old new × IsPermutation (filter (hit of_tenant (Text t ∷ [])) (old.now.trees 1)) rows
  configs_shown shown =
      let found = filter (hit of_tenant (Text t ∷ [])) (old.now.trees 1) in (
        shown_unchanged old new select_config (Text t ∷ []) (at_store old new store select_config select_config_plain) rows shown,
        subst (λ xs. IsPermutation xs rows) (map_whole IsConfig _ (config_whole (Text t ∷ [])) found (all_filter IsConfig _ (old.now.trees 1) store.configs))
            (reads 1 of_tenant columns7 [] (Text t ∷ []) select_config _ old new rows store.schema select_config_is select_config_plain select_config_unlisted refl shown),
      )

  pub silences_shown : Shown select_silences (Text t ∷ []) old new rows → IsUnchanged old new × IsPermutation (filter (hit of_tenant (Text t ∷ [])) (old.now.trees 3)) rows
  silences_shown shown =
      let found = filter (hit of_tenant (Text t ∷ [])) (old.now.trees 3) in (
        shown_unchanged old new select_silences (Text t ∷ []) (at_store old new store select_silences select_silences_plain) rows shown,
        subst (λ xs. IsPermutation xs rows) (map_whole IsSilenceRow _ (silence_whole (Text t ∷ [])) found (all_filter IsSilenceRow _ (old.now.trees 3) store.silences))
            (reads 3 of_tenant columns13 by_id (Text t ∷ []) select_silences _ old new rows store.schema select_silences_is select_silences_plain select_silences_unlisted refl shown),
      )

-- one item more
pub pushed : (items : List Item) (x : Item) (y : Stored) → stored_item x ≡ Some y → stored_items (items ++ x ∷ []) ≡ stored_items items ++ y ∷ []
pushed items x y is = filter_map-append stored_item items (x ∷ []) ∙ ap (λ o. stored_items items ++ cons_option o []) is

-- one row more
pub one_more : {X : Type 0} (f : Row → X) (rows : List Row) (i : ℕ) (row : Row) (done : List X) → i < length rows → row ≡ get_or rows i row
    → (done ++ map f (take i rows)) ++ f row ∷ [] ≡ done ++ map f (take (i + 1) rows)
one_more f rows i row done within is =
    append_assoc done (map f (take i rows)) (f row ∷ [])
    ∙ ap (λ xs. done ++ xs)
    (ap (λ r. map f (take i rows) ++ f r ∷ []) is ∙ sym (map-append f (take i rows) (get_or rows i row ∷ [])) ∙ ap (map f) (sym (take_more rows i row within)))

-- a tenant's things, table by table
things_are : (db : Database) → IsStore db → (t : List ℕ) → things_of t (pairs_in db.trees)
    ≡ map (λ r. (config_in r).1) (filter (hit of_tenant (Text t ∷ [])) (db.trees 1)) ++ map (λ r. (silence_in r).1) (filter (hit of_tenant (Text t ∷ [])) (db.trees 3))
unfolding things_of pairs_in
things_are db store t =
    let own = λ (p : Pair). same t p.0 in
    let thing = λ (p : Pair). p.1 in
    let test = hit of_tenant (Text t ∷ []) in
    let front : filter own (map config_in (db.trees 1)) ≡ map config_in (filter test (db.trees 1)) =
    filter-map own config_in (db.trees 1) ∙ ap (map config_in) (sym (filter_within test (λ r. own (config_in r)) (db.trees 1) (all_weaker IsConfig _ (λ r is. config_of_tenant r is t) (db.trees 1) store.configs))) in
    let back : filter own (map silence_in (db.trees 3)) ≡ map silence_in (filter test (db.trees 3)) =
    filter-map own silence_in (db.trees 3) ∙ ap (map silence_in) (sym (filter_within test (λ r. own (silence_in r)) (db.trees 3) (all_weaker IsSilenceRow _ (λ r is. silence_of_tenant r is t) (db.trees 3) store.silences))) in
    ap (map thing) (filter-append own (map config_in (db.trees 1)) (map silence_in (db.trees 3)) ∙ ap₂ (λ a b. a ++ b) front back)
    ∙ map-append thing (map config_in (filter test (db.trees 1))) (map silence_in (filter test (db.trees 3)))
    ∙ ap₂ (λ a b. a ++ b) (map-map thing config_in (filter test (db.trees 1))) (map-map thing silence_in (filter test (db.trees 3)))

pub all_rows : (old mid : Database) → IsStore old → mid ≡ old → (t : List ℕ) (cs ss : List Row) (xs : List Stored)
    → IsPermutation (filter (hit of_tenant (Text t ∷ [])) (old.trees 1)) cs → IsPermutation (filter (hit of_tenant (Text t ∷ [])) (mid.trees 3)) ss
    → xs ≡ map (λ r. (config_in r).1) cs ++ map (λ r. (silence_in r).1) ss → IsPermutation (things_of t (pairs_in old.trees)) xs
all_rows old mid store same t cs ss xs one two is =
    let there : IsPermutation (filter (hit of_tenant (Text t ∷ [])) (old.trees 3)) ss = subst (λ (db : Database). IsPermutation (filter (hit of_tenant (Text t ∷ [])) (db.trees 3)) ss) same two in
    subst (λ a. IsPermutation a xs) (sym (things_are old store t))
    (subst (IsPermutation _) (sym is) (IsPermutation-append _ _ _ _ (IsPermutation-map (λ r. (config_in r).1) _ _ one) (IsPermutation-map (λ r. (silence_in r).1) _ _ there)))
