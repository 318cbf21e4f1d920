-- What is left where rows are taken out.
use Rattle.std.proofs.Common.{◌≡◌, inl, inr, ℕ, Bool, true, false, not, cond, List, [], ◌∷◌, ◌++◌, map, None, Some, refl, sym, ap, ap₂, subst, ◌∙◌}
use Rattle.std.specs.List.{AllByRecursion, filter}
use Rattle.std.specs.Ordering.{is_eq}
use Rattle.std.proofs.lemmas.Bool.{cases_Bool, cond-false, cond-true, false≢true}
use Rattle.std.proofs.lemmas.List.Elements.{filter-append}
use Rattle.sqlite_trees.proofs.ListLemmas.{filter-map}
use Rattle.sqlite.specs.declared.types.Value.TheVariants.{Text}
use Rattle.sqlite.specs.Order.{Row}
use Rattle.sqlite.specs.Effect.{Database}
use Rattle.uuid.specs.Text.{parsed}
use Rattle.am_tenant.specs.Names.{same}
use Rattle.am_tenant.proofs.Same.{eq_from_same}
use Rattle.am_item.specs.Key.{key_cmp}
use Rattle.am_item.specs.declared.key.ThingKey.{ThingKey as Key}
use Rattle.am_item.specs.declared.key.ThingKey.TheVariants.{Silence as SilenceKey}
use Rattle.am_item.proofs.Keys.{key_itself, key_same}
use Rattle.am_share.specs.Pairs.{Drops, things_of}
use Rattle.am_store.specs.Apart.{AreApart}
use Rattle.am_store.specs.Rows.{IsConfig, IsSilenceRow, IsStore, config_in, id_text, pairs_in, silence_in}
use Rattle.am_store.specs.Steps.{Empties, Removes, TakesOut}
use Rattle.am_store.specs.Stored.{latest, of_key, stored_at}
use Rattle.am_store.specs.Where.{hit, of_silence, of_tenant}
use Rattle.am_store.proofs.Kept.{filter_none, map_within, none_left, still}
use Rattle.am_store.proofs.Latest.{Pair, is_at, of_key-things, other_key, other_tenant}
use Rattle.am_store.proofs.RowLists.{all_filter, all_weaker, apart_filter}
use Rattle.am_store.proofs.Spelled.{config_no_silence, config_of_tenant, silence_at, silence_of_tenant}
use Rattle.am_store.proofs.Stores.{configs_beside_silences, silences_beside_configs, version_beside_configs, version_beside_silences}

-- ---- a tenant's rows

abbrev whose : List ℕ → Pair → Bool
whose u p = same u p.0

module _ (says : Row → Pair) (test : Row → Bool) (t u : List ℕ) where
  own_gone : (rows : List Row) → AllByRecursion (λ r. test r ≡ same t (says r).0) rows → same u t ≡ true → filter (λ r. whose u (says r)) (filter (λ r. not (test r)) rows) ≡ []
  own_gone [] all own = refl
  own_gone (r ∷ rs) all own = elim (cases_Bool (test r)) [
    | inl gone ↦ rw gone (own_gone rs all.1 own)
    | inr stays ↦
        let foreign : whose u (says r) ≡ false = ap (λ v. same v (says r).0) (eq_from_same u t own) ∙ sym all.0 ∙ stays in
        rw stays (cond-false (whose u (says r)) _ _ foreign ∙ own_gone rs all.1 own)
  ]

  others_stay : (rows : List Row) → AllByRecursion (λ r. test r ≡ same t (says r).0) rows → same u t ≡ false
      → filter (λ r. whose u (says r)) (filter (λ r. not (test r)) rows) ≡ filter (λ r. whose u (says r)) rows
  others_stay [] all apart = refl
  others_stay (r ∷ rs) all apart = elim (cases_Bool (test r)) [
    | inl gone ↦
        let foreign : whose u (says r) ≡ false = ap (same u) (sym (eq_from_same t (says r).0 (sym all.0 ∙ gone))) ∙ apart in
        rw gone (others_stay rs all.1 apart ∙ sym (cond-false (whose u (says r)) _ _ foreign))
    | inr stays ↦ rw stays (ap (λ ys. cond (whose u (says r)) (r ∷ ys) ys) (others_stay rs all.1 apart))
  ]

  pairs_gone : (rows : List Row) → AllByRecursion (λ r. test r ≡ same t (says r).0) rows
      → filter (whose u) (map says (filter (λ r. not (test r)) rows)) ≡ cond (same u t) [] (filter (whose u) (map says rows))
  pairs_gone rows all = elim (cases_Bool (same u t)) [
    | inl own ↦ filter-map (whose u) says (filter (λ r. not (test r)) rows) ∙ ap (map says) (own_gone rows all own) ∙ sym (cond-true (same u t) _ _ own)
    | inr apart ↦
        filter-map (whose u) says (filter (λ r. not (test r)) rows) ∙ ap (map says) (others_stay rows all apart) ∙ sym (filter-map (whose u) says rows)
        ∙ sym (cond-false (same u t) _ _ apart)
  ]

both_empty : (b : Bool) (xs ys : List Pair) → map (λ (p : Pair). p.1) (cond b [] xs ++ cond b [] ys) ≡ cond b [] (map (λ (p : Pair). p.1) (xs ++ ys))
both_empty true xs ys = refl
both_empty false xs ys = refl

module _ (old mid new : Database) (t : List ℕ) (store : IsStore old) (one : TakesOut 1 (hit of_tenant (Text t ∷ [])) old mid) (two : TakesOut 3 (hit of_tenant (Text t ∷ [])) mid new) where
  configs_left : new.trees 1 ≡ filter (λ r. not (hit of_tenant (Text t ∷ []) r)) (old.trees 1)
  configs_left = configs_beside_silences mid.trees new.trees two.others ∙ one.rows

  silences_left : new.trees 3 ≡ filter (λ r. not (hit of_tenant (Text t ∷ []) r)) (old.trees 3)
  silences_left = two.rows ∙ ap (filter (λ r. not (hit of_tenant (Text t ∷ []) r))) (silences_beside_configs old.trees mid.trees one.others)

  dropped : Drops t (pairs_in old.trees) (pairs_in new.trees)
  unfolding pairs_in things_of
  dropped u =
      let test = hit of_tenant (Text t ∷ []) in
      let front = pairs_gone config_in test t u (old.trees 1) (all_weaker IsConfig _ (λ r is. config_of_tenant r is t) (old.trees 1) store.configs) in
      let back = pairs_gone silence_in test t u (old.trees 3) (all_weaker IsSilenceRow _ (λ r is. silence_of_tenant r is t) (old.trees 3) store.silences) in
      ap (λ xs. map (λ (p : Pair). p.1) (filter (whose u) (map config_in xs ++ map silence_in (new.trees 3)))) configs_left
      ∙ ap (λ xs. map (λ (p : Pair). p.1) (filter (whose u) (map config_in (filter (λ r. not (test r)) (old.trees 1)) ++ map silence_in xs))) silences_left
      ∙ ap (map (λ (p : Pair). p.1)) (filter-append (whose u) (map config_in (filter (λ r. not (test r)) (old.trees 1))) (map silence_in (filter (λ r. not (test r)) (old.trees 3))) ∙ ap₂ (λ a b. a ++ b) front back)
      ∙ both_empty (same u t) (filter (whose u) (map config_in (old.trees 1))) (filter (whose u) (map silence_in (old.trees 3)))
      ∙ ap (λ xs. cond (same u t) [] (map (λ (p : Pair). p.1) xs)) (sym (filter-append (whose u) (map config_in (old.trees 1)) (map silence_in (old.trees 3))))

  pub tenant_gone : Empties t old new
  tenant_gone = record {
    store = record {
      schema = two.schema;
      version = (store.version.0, version_beside_silences mid.trees new.trees two.others ∙ version_beside_configs old.trees mid.trees one.others ∙ store.version.1);
      configs = subst (AllByRecursion IsConfig) (sym configs_left) (all_filter IsConfig _ (old.trees 1) store.configs);
      configs_apart = subst AreApart (sym configs_left) (apart_filter _ (old.trees 1) store.configs_apart);
      silences = subst (AllByRecursion IsSilenceRow) (sym silences_left) (all_filter IsSilenceRow _ (old.trees 3) store.silences);
      silences_apart = subst AreApart (sym silences_left) (apart_filter _ (old.trees 3) store.silences_apart);
    };
    drops = dropped;
  }

-- the first of the two leaves a store
pub mid_store : (old mid : Database) (t : List ℕ) → IsStore old → TakesOut 1 (hit of_tenant (Text t ∷ [])) old mid → IsStore mid
mid_store old mid t store one = record {
  schema = one.schema;
  version = (store.version.0, version_beside_configs old.trees mid.trees one.others ∙ store.version.1);
  configs = subst (AllByRecursion IsConfig) (sym one.rows) (all_filter IsConfig _ (old.trees 1) store.configs);
  configs_apart = subst AreApart (sym one.rows) (apart_filter _ (old.trees 1) store.configs_apart);
  silences = subst (AllByRecursion IsSilenceRow) (sym (silences_beside_configs old.trees mid.trees one.others)) store.silences;
  silences_apart = subst AreApart (sym (silences_beside_configs old.trees mid.trees one.others)) store.silences_apart;
}

-- ---- one silence

module _ (old new : Database) (t id : List ℕ) (back_again : parsed (id_text id) ≡ Some id) (store : IsStore old)
    (out : TakesOut 3 (hit of_silence (Text t ∷ Text (id_text id) ∷ [])) old new) where
  abbrev key : Key
  key = SilenceKey id

  abbrev test : Row → Bool
  test = hit of_silence (Text t ∷ Text (id_text id) ∷ [])

  tells : AllByRecursion (λ r. test r ≡ is_at t key (silence_in r)) (old.trees 3)
  tells = all_weaker IsSilenceRow _ (λ r is. silence_at r is t id back_again) (old.trees 3) store.silences

  configs_stay : new.trees 1 ≡ old.trees 1
  configs_stay = configs_beside_silences old.trees new.trees out.others

  none_at : filter (is_at t key) (pairs_in new.trees) ≡ []
  unfolding pairs_in
  none_at =
      let front : filter (is_at t key) (map config_in (old.trees 1)) ≡ [] =
      filter_none _ _ (map_within _ config_in (old.trees 1) (all_weaker IsConfig _ (λ r is. config_no_silence r is t id) (old.trees 1) store.configs)) in
      let back : filter (is_at t key) (map silence_in (filter (λ r. not (test r)) (old.trees 3))) ≡ [] =
      filter-map (is_at t key) silence_in (filter (λ r. not (test r)) (old.trees 3)) ∙ ap (map silence_in) (none_left_at (old.trees 3) tells) in
      ap (λ xs. filter (is_at t key) (map config_in xs ++ map silence_in (new.trees 3))) configs_stay
      ∙ ap (λ xs. filter (is_at t key) (map config_in (old.trees 1) ++ map silence_in xs)) out.rows
      ∙ filter-append (is_at t key) (map config_in (old.trees 1)) (map silence_in (filter (λ r. not (test r)) (old.trees 3)))
      ∙ ap₂ (λ a b. a ++ b) front back
    where
      none_left_at : (rs : List Row) → AllByRecursion (λ r. test r ≡ is_at t key (silence_in r)) rs → filter (λ r. is_at t key (silence_in r)) (filter (λ r. not (test r)) rs) ≡ []
      none_left_at rs all = none_left silence_in test (is_at t key) rs all

  unseen : (p : Pair → Bool) → ((q : Pair) → is_at t key q ≡ true → p q ≡ false) → filter p (pairs_in new.trees) ≡ filter p (pairs_in old.trees)
  unfolding pairs_in
  unseen p blind =
      ap (λ xs. filter p (map config_in xs ++ map silence_in (new.trees 3))) configs_stay
      ∙ ap (λ xs. filter p (map config_in (old.trees 1) ++ map silence_in xs)) out.rows
      ∙ filter-append p (map config_in (old.trees 1)) (map silence_in (filter (λ r. not (test r)) (old.trees 3)))
      ∙ ap (λ xs. filter p (map config_in (old.trees 1)) ++ xs)
      (filter-map p silence_in (filter (λ r. not (test r)) (old.trees 3)) ∙ ap (map silence_in) (still silence_in test (is_at t key) p blind (old.trees 3) tells) ∙ sym (filter-map p silence_in (old.trees 3)))
      ∙ sym (filter-append p (map config_in (old.trees 1)) (map silence_in (old.trees 3)))

  pub silence_gone : Removes t key old new
  unfolding stored_at things_of
  silence_gone = record {
    store = record {
      schema = out.schema;
      version = (store.version.0, version_beside_silences old.trees new.trees out.others ∙ store.version.1);
      configs = subst (AllByRecursion IsConfig) (sym configs_stay) store.configs;
      configs_apart = subst AreApart (sym configs_stay) store.configs_apart;
      silences = subst (AllByRecursion IsSilenceRow) (sym out.rows) (all_filter IsSilenceRow _ (old.trees 3) store.silences);
      silences_apart = subst AreApart (sym out.rows) (apart_filter _ (old.trees 3) store.silences_apart);
    };
    removed = λ k. elim (cases_Bool (is_eq (key_cmp key k))) [
      | inl own ↦
          ap (λ q. latest None (of_key q (things_of t (pairs_in new.trees)))) (sym (key_same key k own))
          ∙ ap (latest None) (of_key-things t key (pairs_in new.trees) ∙ ap (map (λ (p : Pair). p.1)) none_at)
          ∙ sym (cond-true (is_eq (key_cmp key k)) _ _ own)
      | inr apart ↦
          ap (latest None) (of_key-things t k (pairs_in new.trees) ∙ ap (map (λ (p : Pair). p.1)) (unseen (is_at t k) (other_key t k key (turned k apart))) ∙ sym (of_key-things t k (pairs_in old.trees)))
          ∙ sym (cond-false (is_eq (key_cmp key k)) _ _ apart)
    ];
    others = λ u apart. ap (map (λ (p : Pair). p.1)) (unseen (whose u) (other_tenant t u key apart));
  }
    where
      turned : (k : Key) → is_eq (key_cmp key k) ≡ false → is_eq (key_cmp k key) ≡ false
      turned k apart = elim (cases_Bool (is_eq (key_cmp k key))) [
        | inl one ↦ absurd (let e = key_same k key one in let f = sym apart ∙ ap (λ q. is_eq (key_cmp key q)) e ∙ key_itself key in false≢true f)
        | inr two ↦ two
      ]
