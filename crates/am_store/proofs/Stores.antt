-- What the statements make of a store.
use Rattle.std.proofs.Common.{◌≡◌, ℕ, Bool, true, false, not, ◌&&◌, List, [], ◌∷◌, ◌++◌, map, Option, IsTrue, IsUtf8, IfSome, refl, sym, ap, ap₂, subst, ◌∙◌, arith}
use Rattle.std.specs.List.{AllByRecursion, filter}
use Rattle.std.proofs.lemmas.List.Elements.{filter-append}
use Rattle.sqlite_trees.proofs.TreeLemmas.{all-put_row}
use Rattle.sqlite.specs.declared.types.Value.TheVariants.{Int, Text}
use Rattle.sqlite.specs.Order.{Row}
use Rattle.sqlite.specs.Edit.{is_taken}
use Rattle.sqlite.specs.Tree.{Trees, put_row}
use Rattle.sqlite.specs.Effect.{Database}
use Rattle.am_tenant.specs.Names.{is_tenant_name, same}
use Rattle.am_tenant.proofs.Same.{same-refl}
use Rattle.am_item.specs.declared.stamp.Stamp.{Stamp}
use Rattle.am_item.specs.declared.key.ThingKey.TheVariants.{Configuration as ConfigurationKey, Silence as SilenceKey}
use Rattle.am_item.proofs.Keys.{key_itself}
use Rattle.am_share.specs.Pairs.{things_of}
use Rattle.am_store.specs.Apart.{AreApart}
use Rattle.am_store.specs.Rows.{IsConfig, IsSilence, IsSilenceRow, IsStamp, IsStore, config_fields, config_in, id_text, pairs_in, silence_fields, silence_in}
use Rattle.am_store.specs.Steps.{KeepsOthers, PutsRow, Stores, TakesOut}
use Rattle.am_store.specs.Stored.{ConfigurationText, SilenceText, SilenceWords, Stored, has_key, key_in, of_key, stamped}
use Rattle.am_store.specs.Where.{hit, of_silence, of_tenant}
use Rattle.am_store.proofs.Kept.{filter_none, map_within, row_alone, row_unseen}
use Rattle.am_store.proofs.Latest.{Pair, Replaces, any_reaches, is_at, leaves_others, others_then, puts_new, puts_none, puts_then}
use Rattle.am_store.proofs.RowLists.{all_filter, all_weaker, apart_filter, apart_put}
use Rattle.am_store.proofs.Spelled.{config_at, config_no_silence, config_said, silence_at, silence_no_config, silence_said}

-- ---- the trees are three

not_0_1 : ◌≡◌ {A = ℕ} 0 1 → ⊥
not_0_1 e = omega (arith, e)

not_0_3 : ◌≡◌ {A = ℕ} 0 3 → ⊥
not_0_3 e = omega (arith, e)

not_3_1 : ◌≡◌ {A = ℕ} 3 1 → ⊥
not_3_1 e = omega (arith, e)

not_1_3 : ◌≡◌ {A = ℕ} 1 3 → ⊥
not_1_3 e = omega (arith, e)

module _ (old new : Trees) where
  pub version_beside_configs : KeepsOthers 1 old new → new 0 ≡ old 0
  version_beside_configs keeps = keeps.0 not_0_1

  pub silences_beside_configs : KeepsOthers 1 old new → new 3 ≡ old 3
  silences_beside_configs keeps = keeps.1.1.0 not_3_1

  pub version_beside_silences : KeepsOthers 3 old new → new 0 ≡ old 0
  version_beside_silences keeps = keeps.0 not_0_3

  pub configs_beside_silences : KeepsOthers 3 old new → new 1 ≡ old 1
  configs_beside_silences keeps = keeps.1.0 not_1_3

-- ---- pairs in two parts

module _ (t : List ℕ) (x : Stored) where
  replaces_front : (one two rest : List Pair) → filter (is_at t (key_in x.value)) two ≡ (t, x) ∷ [] → filter (is_at t (key_in x.value)) rest ≡ []
      → ((p : Pair → Bool) → ((q : Pair) → is_at t (key_in x.value) q ≡ true → p q ≡ false) → filter p two ≡ filter p one) → Replaces t x (one ++ rest) (two ++ rest)
  replaces_front one two rest alone none unseen = record {
    alone = filter-append (is_at t (key_in x.value)) two rest ∙ ap₂ (λ a b. a ++ b) alone none;
    unseen = λ p blind. filter-append p two rest ∙ ap (λ a. a ++ filter p rest) (unseen p blind) ∙ sym (filter-append p one rest);
  }

  replaces_back : (rest one two : List Pair) → filter (is_at t (key_in x.value)) two ≡ (t, x) ∷ [] → filter (is_at t (key_in x.value)) rest ≡ []
      → ((p : Pair → Bool) → ((q : Pair) → is_at t (key_in x.value) q ≡ true → p q ≡ false) → filter p two ≡ filter p one) → Replaces t x (rest ++ one) (rest ++ two)
  replaces_back rest one two alone none unseen = record {
    alone = filter-append (is_at t (key_in x.value)) rest two ∙ ap₂ (λ a b. a ++ b) none alone;
    unseen = λ p blind. filter-append p rest two ∙ ap (λ a. filter p rest ++ a) (unseen p blind) ∙ sym (filter-append p rest one);
  }

  own_key : is_at t (key_in x.value) (t, x) ≡ true
  own_key = ap (λ b. b && has_key (key_in x.value) x) (same-refl t) ∙ key_itself (key_in x.value)

-- ---- a configuration

module _ (old mid new : Database) (t : List ℕ) (stamp : Stamp) (body : Option (List ℕ)) (store : IsStore old) (named : IsTrue (is_tenant_name t)) (written : IsStamp stamp) (text : IfSome body IsUtf8)
    (out : TakesOut 1 (hit of_tenant (Text t ∷ [])) old mid) (put : PutsRow 1 (config_fields t stamp body) mid new)
    (unreached : any_reaches (of_key ConfigurationKey (things_of t (pairs_in old.trees))) stamp ≡ false) where
  abbrev x : Stored
  x = stamped stamp (ConfigurationText body)

  abbrev row : Row
  row = Int put.id ∷ config_fields t stamp body

  abbrev test : Row → Bool
  test = hit of_tenant (Text t ∷ [])

  abbrev left : List Row
  left = filter (λ r. not (test r)) (old.trees 1)

  configs_now : new.trees 1 ≡ put_row row left
  configs_now = put.rows ∙ ap (put_row row) out.rows

  silences_now : new.trees 3 ≡ old.trees 3
  silences_now = silences_beside_configs mid.trees new.trees put.others ∙ silences_beside_configs old.trees mid.trees out.others

  is_config : IsConfig row
  is_config = record { rowid = put.id; tenant = t; stamp = stamp; body = body; is = refl; named = named; stamped = written; text = text }

  free : is_taken left row ≡ false
  free = ap (λ rs. is_taken rs row) (sym out.rows) ∙ put.free

  replaces : Replaces t x (pairs_in old.trees) (pairs_in new.trees)
  unfolding pairs_in
  replaces =
      let says = config_said put.id t stamp body in
      let tells : AllByRecursion (λ r. test r ≡ is_at t ConfigurationKey (config_in r)) (old.trees 1) =
      all_weaker IsConfig _ (λ r is. config_at r is t) (old.trees 1) store.configs in
      let none : filter (is_at t ConfigurationKey) (map silence_in (old.trees 3)) ≡ [] =
      filter_none _ _ (map_within _ silence_in (old.trees 3) (all_weaker IsSilenceRow _ (λ r is. silence_no_config r is t) (old.trees 3) store.silences)) in
      subst (λ rs. Replaces t x (map config_in (old.trees 1) ++ map silence_in (old.trees 3)) (map config_in (new.trees 1) ++ map silence_in rs)) (sym silences_now)
      (subst (λ rs. Replaces t x (map config_in (old.trees 1) ++ map silence_in (old.trees 3)) (map config_in rs ++ map silence_in (old.trees 3))) (sym configs_now)
      (replaces_front t x (map config_in (old.trees 1)) (map config_in (put_row row left)) (map silence_in (old.trees 3))
      (row_alone config_in test t x (old.trees 1) row says (own_key t x) tells free) none
      (row_unseen config_in test t x (old.trees 1) row says (own_key t x) tells free)))

  pub config_stores : Stores t (x ∷ []) old new
  config_stores = record {
    store = record {
      schema = put.schema;
      version = (store.version.0, version_beside_configs mid.trees new.trees put.others ∙ version_beside_configs old.trees mid.trees out.others ∙ store.version.1);
      configs = subst (AllByRecursion IsConfig) (sym configs_now) (all-put_row IsConfig row left is_config (all_filter IsConfig _ (old.trees 1) store.configs));
      configs_apart = subst AreApart (sym configs_now) (apart_put row left free (apart_filter _ (old.trees 1) store.configs_apart));
      silences = subst (AllByRecursion IsSilenceRow) (sym silences_now) store.silences;
      silences_apart = subst AreApart (sym silences_now) store.silences_apart;
    };
    puts = puts_new t x (pairs_in old.trees) (pairs_in new.trees) replaces unreached;
    others = leaves_others t x (pairs_in old.trees) (pairs_in new.trees) replaces;
  }

-- ---- a silence

module _ (old mid new : Database) (t : List ℕ) (stamp : Stamp) (s : SilenceText) (store : IsStore old) (named : IsTrue (is_tenant_name t)) (written : IsStamp stamp) (valid : IsSilence s)
    (out : TakesOut 3 (hit of_silence (Text t ∷ Text (id_text s.id) ∷ [])) old mid) (put : PutsRow 3 (silence_fields t stamp s) mid new)
    (unreached : any_reaches (of_key (SilenceKey s.id) (things_of t (pairs_in old.trees))) stamp ≡ false) where
  abbrev y : Stored
  y = stamped stamp (SilenceWords s)

  abbrev silence_row : Row
  silence_row = Int put.id ∷ silence_fields t stamp s

  abbrev silence_test : Row → Bool
  silence_test = hit of_silence (Text t ∷ Text (id_text s.id) ∷ [])

  abbrev silences_left : List Row
  silences_left = filter (λ r. not (silence_test r)) (old.trees 3)

  silences_then : new.trees 3 ≡ put_row silence_row silences_left
  silences_then = put.rows ∙ ap (put_row silence_row) out.rows

  configs_then : new.trees 1 ≡ old.trees 1
  configs_then = configs_beside_silences mid.trees new.trees put.others ∙ configs_beside_silences old.trees mid.trees out.others

  is_silence : IsSilenceRow silence_row
  is_silence = record { rowid = put.id; tenant = t; stamp = stamp; silence = s; is = refl; named = named; stamped = written; valid = valid }

  silence_free : is_taken silences_left silence_row ≡ false
  silence_free = ap (λ rs. is_taken rs silence_row) (sym out.rows) ∙ put.free

  silence_replaces : Replaces t y (pairs_in old.trees) (pairs_in new.trees)
  unfolding pairs_in
  silence_replaces =
      let says = silence_said put.id t stamp s valid in
      let tells : AllByRecursion (λ r. silence_test r ≡ is_at t (SilenceKey s.id) (silence_in r)) (old.trees 3) =
      all_weaker IsSilenceRow _ (λ r is. silence_at r is t s.id valid.id) (old.trees 3) store.silences in
      let none : filter (is_at t (SilenceKey s.id)) (map config_in (old.trees 1)) ≡ [] =
      filter_none _ _ (map_within _ config_in (old.trees 1) (all_weaker IsConfig _ (λ r is. config_no_silence r is t s.id) (old.trees 1) store.configs)) in
      subst (λ rs. Replaces t y (map config_in (old.trees 1) ++ map silence_in (old.trees 3)) (map config_in rs ++ map silence_in (new.trees 3))) (sym configs_then)
      (subst (λ rs. Replaces t y (map config_in (old.trees 1) ++ map silence_in (old.trees 3)) (map config_in (old.trees 1) ++ map silence_in rs)) (sym silences_then)
      (replaces_back t y (map config_in (old.trees 1)) (map silence_in (old.trees 3)) (map silence_in (put_row silence_row silences_left))
      (row_alone silence_in silence_test t y (old.trees 3) silence_row says (own_key t y) tells silence_free) none
      (row_unseen silence_in silence_test t y (old.trees 3) silence_row says (own_key t y) tells silence_free)))

  pub silence_stores : Stores t (y ∷ []) old new
  silence_stores = record {
    store = record {
      schema = put.schema;
      version = (store.version.0, version_beside_silences mid.trees new.trees put.others ∙ version_beside_silences old.trees mid.trees out.others ∙ store.version.1);
      configs = subst (AllByRecursion IsConfig) (sym configs_then) store.configs;
      configs_apart = subst AreApart (sym configs_then) store.configs_apart;
      silences = subst (AllByRecursion IsSilenceRow) (sym silences_then) (all-put_row IsSilenceRow silence_row silences_left is_silence (all_filter IsSilenceRow _ (old.trees 3) store.silences));
      silences_apart = subst AreApart (sym silences_then) (apart_put silence_row silences_left silence_free (apart_filter _ (old.trees 3) store.silences_apart));
    };
    puts = puts_new t y (pairs_in old.trees) (pairs_in new.trees) silence_replaces unreached;
    others = leaves_others t y (pairs_in old.trees) (pairs_in new.trees) silence_replaces;
  }

-- ---- nothing changes

-- what is there reaches the stamp of what comes
pub stays : (old new : Database) (t : List ℕ) (x : Stored) → IsStore old → new ≡ old → any_reaches (of_key (key_in x.value) (things_of t (pairs_in old.trees))) x.stamp ≡ true
    → Stores t (x ∷ []) old new
stays old new t x store same reached =
    subst (Stores t (x ∷ []) old) (sym same) (record { store = store; puts = puts_none t x (pairs_in old.trees) reached; others = λ u apart. refl })

-- nothing was put
pub stores_none : (old : Database) (t : List ℕ) → IsStore old → Stores t [] old old
stores_none old t store = record { store = store; puts = λ key. refl; others = λ u apart. refl }

pub stores_then : (a b c : Database) (t : List ℕ) (xs ys : List Stored) → Stores t xs a b → Stores t ys b c → Stores t (xs ++ ys) a c
stores_then a b c t xs ys one two = record {
  store = two.store;
  puts = puts_then t xs ys (pairs_in a.trees) (pairs_in b.trees) (pairs_in c.trees) one.puts two.puts;
  others = others_then t (pairs_in a.trees) (pairs_in b.trees) (pairs_in c.trees) one.others two.others;
}
