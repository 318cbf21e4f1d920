-- Whether a stamp is reached, as the rows of its key tell.
use Rattle.std.proofs.Common.{◌≡◌, ℕ, Bool, not, ◌||◌, List, [], ◌∷◌, ◌++◌, append-nil, map, Some, refl, sym, ap, ◌∙◌}
use Rattle.std.specs.List.{AllByRecursion, filter, list_any}
use Rattle.std.specs.List.Sorted.{IsPermutation}
use Rattle.std.proofs.lemmas.List.Elements.{filter-append}
use Rattle.std.proofs.lemmas.List.Sorted.{list_any-IsPermutation}
use Rattle.sqlite_trees.proofs.ListLemmas.{filter-map}
use Rattle.sqlite.specs.declared.types.Value.TheVariants.{Text}
use Rattle.sqlite.specs.Order.{Row}
use Rattle.sqlite.specs.Term.{eval_all}
use Rattle.sqlite.specs.Effect.{Database}
use Rattle.uuid.specs.Text.{parsed}
use Rattle.am_item.specs.declared.stamp.Stamp.{Stamp}
use Rattle.am_item.specs.declared.key.ThingKey.{ThingKey as Key}
use Rattle.am_item.specs.declared.key.ThingKey.TheVariants.{Configuration as ConfigurationKey, Silence as SilenceKey}
use Rattle.am_share.specs.Pairs.{things_of}
use Rattle.am_store.specs.Reading.{reached}
use Rattle.am_store.specs.Rows.{IsConfig, IsSilenceRow, IsStore, config_in, id_text, pairs_in, silence_in}
use Rattle.am_store.specs.Stored.{Stored, of_key}
use Rattle.am_store.specs.Where.{config_stamp, hit, of_silence, of_tenant, silence_stamp}
use Rattle.am_store.proofs.Kept.{filter_none, map_within}
use Rattle.am_store.proofs.Latest.{Pair, above, any_reaches, is_at, of_key-things}
use Rattle.am_store.proofs.RowLists.{all_weaker, filter_within}
use Rattle.am_store.proofs.Spelled.{config_at, config_no_silence, silence_at, silence_no_config}

any_map : {X Y : Type 0} (p : Y → Bool) (f : X → Y) (xs : List X) → list_any p (map f xs) ≡ list_any (λ x. p (f x)) xs
any_map p f [] = refl
any_map p f (x ∷ xs) = ap (λ b. p (f x) || b) (any_map p f xs)

module _ (says : Row → Pair) (shown : Row → Row) (test : Row → Bool) (t : List ℕ) (key : Key) (stamp : Stamp) (all : List Row)
    (same_stamp : (r : Row) → reached stamp (shown r) ≡ not (above stamp (says r).1.stamp))
    (tells : AllByRecursion (λ r. test r ≡ is_at t key (says r)) all) where
  told : (rows given : List Row) (answer : Bool) → IsPermutation (map shown (filter test all)) rows → given ≡ rows → answer ≡ list_any (reached stamp) given
      → any_reaches (map (λ (p : Pair). p.1) (filter (is_at t key) (map says all))) stamp ≡ answer
  told rows given answer same is answered =
      any_map (λ (y : Stored). not (above stamp y.stamp)) (λ (p : Pair). p.1) (filter (is_at t key) (map says all))
      ∙ ap (list_any (λ (p : Pair). not (above stamp p.1.stamp))) (filter-map (is_at t key) says all)
      ∙ any_map (λ (p : Pair). not (above stamp p.1.stamp)) says (filter (λ r. is_at t key (says r)) all)
      ∙ ap (λ f. list_any f (filter (λ r. is_at t key (says r)) all)) (λ i r. sym (same_stamp r) i)
      ∙ ap (list_any (λ r. reached stamp (shown r))) (sym (filter_within test (λ r. is_at t key (says r)) all tells))
      ∙ sym (any_map (reached stamp) shown (filter test all))
      ∙ list_any-IsPermutation (reached stamp) _ rows same
      ∙ ap (list_any (reached stamp)) (sym is)
      ∙ sym answered

-- what is answered of a list that is the rows
module _ (db : Database) (store : IsStore db) (t : List ℕ) (stamp : Stamp) (rows given : List Row) (answer : Bool) (is : given ≡ rows) (answered : answer ≡ list_any (reached stamp) given) where
  pub config_reached : IsPermutation (map (λ r. eval_all config_stamp ((Text t ∷ []) ∷ r ∷ [])) (filter (hit of_tenant (Text t ∷ [])) (db.trees 1))) rows
      → any_reaches (of_key ConfigurationKey (things_of t (pairs_in db.trees))) stamp ≡ answer
  unfolding pairs_in
  config_reached same =
      let none : filter (is_at t ConfigurationKey) (map silence_in (db.trees 3)) ≡ [] =
      filter_none _ _ (map_within _ silence_in (db.trees 3) (all_weaker IsSilenceRow _ (λ r is. silence_no_config r is t) (db.trees 3) store.silences)) in
      let front : filter (is_at t ConfigurationKey) (map config_in (db.trees 1) ++ map silence_in (db.trees 3)) ≡ filter (is_at t ConfigurationKey) (map config_in (db.trees 1)) =
      filter-append (is_at t ConfigurationKey) (map config_in (db.trees 1)) (map silence_in (db.trees 3)) ∙ ap (λ xs. filter (is_at t ConfigurationKey) (map config_in (db.trees 1)) ++ xs) none ∙ append-nil _ in
      ap (λ xs. any_reaches xs stamp) (of_key-things t ConfigurationKey (map config_in (db.trees 1) ++ map silence_in (db.trees 3)) ∙ ap (map (λ (p : Pair). p.1)) front)
      ∙ told config_in (λ r. eval_all config_stamp ((Text t ∷ []) ∷ r ∷ [])) (hit of_tenant (Text t ∷ [])) t ConfigurationKey stamp (db.trees 1) (λ r. refl)
      (all_weaker IsConfig _ (λ r is. config_at r is t) (db.trees 1) store.configs) rows given answer same is answered

  pub silence_reached : (id : List ℕ) → parsed (id_text id) ≡ Some id
      → IsPermutation (map (λ r. eval_all silence_stamp ((Text t ∷ Text (id_text id) ∷ []) ∷ r ∷ [])) (filter (hit of_silence (Text t ∷ Text (id_text id) ∷ [])) (db.trees 3))) rows
      → any_reaches (of_key (SilenceKey id) (things_of t (pairs_in db.trees))) stamp ≡ answer
  unfolding pairs_in
  silence_reached id back_again same =
      let none : filter (is_at t (SilenceKey id)) (map config_in (db.trees 1)) ≡ [] =
      filter_none _ _ (map_within _ config_in (db.trees 1) (all_weaker IsConfig _ (λ r is. config_no_silence r is t id) (db.trees 1) store.configs)) in
      let back : filter (is_at t (SilenceKey id)) (map config_in (db.trees 1) ++ map silence_in (db.trees 3)) ≡ filter (is_at t (SilenceKey id)) (map silence_in (db.trees 3)) =
      filter-append (is_at t (SilenceKey id)) (map config_in (db.trees 1)) (map silence_in (db.trees 3)) ∙ ap (λ xs. xs ++ filter (is_at t (SilenceKey id)) (map silence_in (db.trees 3))) none in
      ap (λ xs. any_reaches xs stamp) (of_key-things t (SilenceKey id) (map config_in (db.trees 1) ++ map silence_in (db.trees 3)) ∙ ap (map (λ (p : Pair). p.1)) back)
      ∙ told silence_in (λ r. eval_all silence_stamp ((Text t ∷ Text (id_text id) ∷ []) ∷ r ∷ [])) (hit of_silence (Text t ∷ Text (id_text id) ∷ [])) t (SilenceKey id) stamp (db.trees 3) (λ r. refl)
      (all_weaker IsSilenceRow _ (λ r is. silence_at r is t id back_again) (db.trees 3) store.silences) rows given answer same is answered
