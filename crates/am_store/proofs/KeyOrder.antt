-- The rows of a tenant are read in order of their keys.
use Rattle.std.proofs.Common.{◌≡◌, ℕ, ◌+◌, ◌-◌, ◌<◌, ◌≤◌, List, [], ◌∷◌, ◌++◌, append_assoc, drop, get_or, length, length-append, map, take, Some, arith, refl, sym, ap, ap₂, subst, ◌∙◌}
use Rattle.std.specs.Cmp.Lexicographic.{slice_cmp}
use Rattle.std.specs.List.{All, AllByRecursion, filter}
use Rattle.std.specs.List.Sorted.{IsStrictlySortedBy}
use Rattle.std.specs.Ordering.{nat_cmp}
use Rattle.std.specs.declared.cmp.Ordering.TheVariants.{Less}
use Rattle.std.proofs.lemmas.List.{get_or-append-add, get_or-map, get_or_append_left, length-map, map-append, take-append-drop}
use Rattle.std.proofs.lemmas.List.Elements.{All-from_recursion, recursion_from_All}
use Rattle.std.proofs.lemmas.List.Sorted.{All-permutation, length_permutation}
use Rattle.std.proofs.lemmas.Map.Keys.{IsDistinct-IsPermutation, Less-from_sorted}
use Rattle.sqlite_value.proofs.OrderLemmas.{value_cmp-Text}
use Rattle.sqlite_value.specs.Order.{value_cmp}
use Rattle.sqlite.specs.declared.types.Value.TheVariants.{Null, Text}
use Rattle.sqlite.specs.Effect.{IsDatabase}
use Rattle.sqlite.specs.Order.{Row, column}
use Rattle.sqlite.specs.Program.{overlay}
use Rattle.sqlite.specs.State.{Shown, State}
use Rattle.sqlite.proofs.Callers.{reads_as}
use Rattle.am_item.specs.Key.{Key, key_cmp, key_of}
use Rattle.am_item.specs.declared.item.Item.{Item}
use Rattle.am_item.specs.declared.item.Thing.{Thing}
use Rattle.am_item.specs.declared.item.Thing.TheVariants as thing
use Rattle.am_item.specs.declared.stamp.Stamp.{Stamp}
use Rattle.am_item.specs.Key as item
use Rattle.am_store.specs.Reading.{AreInOrder, KeysRise, config_key, silence_key}
use Rattle.am_store.specs.Rows.{IsConfig, IsSilenceRow, IsStore, id_text}
use Rattle.am_store.specs.Stored.{ConfigurationText, SilenceWords, Stored, key_in, silence_text, stamped, stored_item, stored_thing}
use Rattle.am_store.specs.Tables.{store_schema}
use Rattle.am_store.specs.Texts.{select_config, select_silences}
use Rattle.am_store.specs.Where.{columns13, hit, of_tenant}
use Rattle.am_store.proofs.Compiled.{select_silences_is, select_silences_plain, select_silences_unlisted}
use Rattle.am_store.proofs.Identifiers.{ids_cmp}
use Rattle.am_store.proofs.Latest.{Pair}
use Rattle.am_store.proofs.Ordered.{rising_answer, same_at, same_at-sym}
use Rattle.am_store.proofs.RowLists.{all_filter}
use Rattle.am_store.proofs.RowsOf.{configs_shown, one_more, silences_shown}
use Rattle.am_store.proofs.Spelled.{silence_says}
use Rattle.am_store.proofs.Unique.{one_config, silences_apart}

-- ---- lists of keys

-- the key of an item that is stored
pub key_stored : (x : Item) (y : Stored) → stored_item x ≡ Some y → key_of x ≡ key_in y.value
key_stored x y is = of_thing x.stamp x.thing y is
  where
    of_thing : (stamp : Stamp) (t : Thing) (y : Stored) → stored_thing stamp t ≡ Some y → item.key_in t ≡ key_in y.value
    of_thing stamp (thing.Configuration text) y is =
        let same : stamped stamp (ConfigurationText text) ≡ y = (let e = is in cc) in
        ap (λ (z : Stored). key_in z.value) same
    of_thing stamp (thing.Silence silence) y is =
        let same : stamped stamp (SilenceWords (silence_text silence)) ≡ y = (let e = is in cc) in
        ap (λ (z : Stored). key_in z.value) same
    of_thing stamp (thing.Alert alert) y is = absurd (let clash = is in cc)
    of_thing stamp (thing.SentEntry entry) y is = absurd (let clash = is in cc)

all_front : {X : Type 0} (P : X → Type 0) (xs ys : List X) → AllByRecursion P (xs ++ ys) → AllByRecursion P xs
all_front P [] ys all = tt
all_front P (x ∷ xs) ys all = (all.0, all_front P xs ys all.1)

pub rise_front : (xs ys : List Key) → KeysRise (xs ++ ys) → KeysRise xs
unfolding IsStrictlySortedBy
rise_front [] ys rise = tt
rise_front (x ∷ xs) ys rise = (all_front (λ k. key_cmp x k ≡ Less) xs ys rise.0, rise_front xs ys rise.1)

-- an item whose key rises above all others rises above the last
pub last_below : (xs : List Item) (y d : Item) → 0 < length xs → KeysRise (map key_of xs ++ key_of y ∷ []) → key_cmp (key_of (get_or xs (length xs - 1) d)) (key_of y) ≡ Less
last_below xs y d some rise =
    let k = key_of y in
    let keys = map key_of xs in
    let long : length keys ≡ length xs = length-map xs key_of in
    let one : get_or (keys ++ k ∷ []) (length xs - 1) k ≡ key_of (get_or xs (length xs - 1) d) =
    get_or_append_left keys (k ∷ []) k (length xs - 1) (omega (arith, long, some)) ∙ get_or-map key_of xs (length xs - 1) d k (omega (arith, some)) in
    let two : get_or (keys ++ k ∷ []) (length xs) k ≡ k =
    ap (λ j. get_or (keys ++ k ∷ []) j k) {x = length xs} {y = length keys + 0} (omega (arith, long)) ∙ get_or-append-add keys (k ∷ []) 0 k in
    let up = Less-from_sorted key_cmp (keys ++ k ∷ []) (length xs - 1) (length xs) k rise (omega (arith, some)) (omega (arith, long, length-append keys (k ∷ []))) in
    sym (ap₂ key_cmp one two) ∙ up

-- the keys of the rows so far, and one more
module _ (f : Row → Key) (rows : List Row) (i : ℕ) (row : Row) (done keys : List Key) (key : Key) (within : i < length rows) (at : row ≡ get_or rows i row) (so_far : keys ≡ done ++ map f (take i rows)) (is : key ≡ f row) where
  pub one_key_more : keys ++ key ∷ [] ≡ done ++ map f (take (i + 1) rows)
  one_key_more = ap₂ (λ ks k. ks ++ k ∷ []) so_far is ∙ one_more f rows i row done within at

  pub rise_so_far : KeysRise (done ++ map f rows) → KeysRise (keys ++ key ∷ [])
  rise_so_far rise =
      let all : done ++ map f rows ≡ (done ++ map f (take (i + 1) rows)) ++ map f (drop (i + 1) rows) =
      ap (λ xs. done ++ map f xs) (sym (take-append-drop (i + 1) rows)) ∙ ap (λ ks. done ++ ks) (map-append f (take (i + 1) rows) (drop (i + 1) rows))
      ∙ sym (append_assoc done (map f (take (i + 1) rows)) (map f (drop (i + 1) rows))) in
      subst KeysRise (sym one_key_more) (rise_front (done ++ map f (take (i + 1) rows)) (map f (drop (i + 1) rows)) (subst KeysRise all rise))

-- ---- rows in order of their identifiers

silence_up : (a b : Row) → IsSilenceRow a → IsSilenceRow b → value_cmp (column a 2) (column b 2) ≡ Less → key_cmp (silence_key a) (silence_key b) ≡ Less
unfolding key_cmp
silence_up a b one two up =
    let i = one.silence.id in
    let j = two.silence.id in
    let texts : slice_cmp nat_cmp (id_text i) (id_text j) ≡ Less =
    sym (value_cmp-Text (id_text i) (id_text j)) ∙ sym (ap₂ value_cmp (ap (λ r. column r 2) one.is) (ap (λ r. column r 2) two.is)) ∙ up in
    ap₂ key_cmp (ap (λ (p : Pair). key_in p.1.value) (silence_says a one)) (ap (λ (p : Pair). key_in p.1.value) (silence_says b two))
    ∙ sym (ids_cmp i j one.valid.id two.valid.id) ∙ texts

keys_up : (rows : List Row) → AllByRecursion IsSilenceRow rows → IsStrictlySortedBy (λ a b. value_cmp (column a 2) (column b 2)) rows → KeysRise (map silence_key rows)
unfolding IsStrictlySortedBy
keys_up [] all rise = tt
keys_up (r ∷ rs) all rise = (above r rs all.0 all.1 rise.0, keys_up rs all.1 rise.1)
  where
    above : (r : Row) (rs : List Row) → IsSilenceRow r → AllByRecursion IsSilenceRow rs → AllByRecursion (λ s. value_cmp (column r 2) (column s 2) ≡ Less) rs
        → AllByRecursion (λ k. key_cmp (silence_key r) k ≡ Less) (map silence_key rs)
    above r [] is all up = tt
    above r (s ∷ rs) is all up = (silence_up r s is all.0 up.0, above r rs is all.1 up.1)

-- a configuration comes before all silences
config_first : (c : Row) (rows : List Row) → AllByRecursion (λ k. key_cmp (config_key c) k ≡ Less) (map silence_key rows)
unfolding key_cmp
config_first c [] = tt
config_first c (r ∷ rs) = (refl, config_first c rs)

both_rise : (cs ss : List Row) → length cs ≤ 1 → KeysRise (map silence_key ss) → KeysRise (map config_key cs ++ map silence_key ss)
unfolding IsStrictlySortedBy
both_rise [] ss few rise = rise
both_rise (c ∷ []) ss few rise = (config_first c ss, rise)
both_rise (c ∷ d ∷ cs) ss few rise = absurd (omega (arith, few))

-- ---- what the queries show

module _ (old new : State) (store : IsStore old.now) (sound : IsDatabase old.now) (t : List ℕ) (rows : List Row) where
  abbrev found : List Row → List Row
  found all = filter (hit of_tenant (Text t ∷ [])) all

  configs_few : Shown select_config (Text t ∷ []) old new rows → All IsConfig rows × (length rows ≤ 1)
  configs_few shown =
      let tree = old.now.trees 1 in
      let same = (configs_shown old new store t rows shown).1 in
      let few = one_config t old.now sound store.schema store.configs store.configs_apart in (
        All-permutation IsConfig (found tree) rows same (All-from_recursion IsConfig (found tree) (all_filter IsConfig _ tree store.configs)),
        omega (arith, few, length_permutation (found tree) rows same),
      )

  silences_rise : Shown select_silences (Text t ∷ []) old new rows → All IsSilenceRow rows × KeysRise (map silence_key rows)
  silences_rise shown =
      let tree = old.now.trees 3 in
      let same = (silences_shown old new store t rows shown).1 in
      let all = All-permutation IsSilenceRow (found tree) rows same (All-from_recursion IsSilenceRow (found tree) (all_filter IsSilenceRow _ tree store.silences)) in
      let apart = IsDistinct-IsPermutation (same_at 2) (same_at-sym 2) (found tree) rows same (silences_apart t old.now sound store.schema store.silences store.silences_apart) in
      let answer = (reads_as select_silences (Text t ∷ []) old new store_schema store.schema _ select_silences_is select_silences_plain select_silences_unlisted rows shown).answer Null in
      (all, keys_up rows (recursion_from_All IsSilenceRow rows all) (rising_answer 3 of_tenant columns13 2 (λ env. refl) (overlay old.now.trees []) (Text t ∷ []) rows answer apart))

pub in_order : (old mid new : State) → IsStore old.now → IsDatabase old.now → mid.now ≡ old.now → (t : List ℕ) (cs ss : List Row)
    → Shown select_config (Text t ∷ []) old mid cs → Shown select_silences (Text t ∷ []) mid new ss → AreInOrder cs ss
in_order old mid new store sound same_db t cs ss one two =
    let configs = configs_few old mid store sound t cs one in
    let silences = silences_rise mid new (subst IsStore (sym same_db) store) (subst IsDatabase (sym same_db) sound) t ss two in
    record { are_configs = configs.0; are_silences = silences.0; keys = both_rise cs ss configs.1 silences.1 }
