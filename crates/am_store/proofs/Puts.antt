-- The items of a list that are stored, one more at a time.
use Rattle.std.proofs.Common.{◌≡◌, ◌⊎◌, inl, inr, ℕ, ◌+◌, ◌<◌, List, [], ◌∷◌, ◌++◌, length, map, take, drop, get_or, All, Option, Some, None, Result, Ok, Err, IfErr, refl, false, IsTrue, sym, ap, subst, ◌∙◌}
use Rattle.std.specs.List.{cons_option, filter}
use Rattle.std.specs.List.Sorted.{IsPermutation}
use Rattle.std.specs.Option.{option_to_list}
use Rattle.std.proofs.lemmas.List.{take_more, take-append-drop}
use Rattle.std.proofs.lemmas.List.Elements.{All-from_recursion, All-map, filter_map-append}
use Rattle.std.proofs.lemmas.List.Sorted.{All-permutation}
use Rattle.sqlite.specs.declared.error.Error.{Error}
use Rattle.sqlite.specs.declared.types.Value.TheVariants.{Text}
use Rattle.sqlite.specs.Effect.{Database, IsDatabase}
use Rattle.sqlite.specs.Order.{Row}
use Rattle.sqlite.specs.State.{HasCleanDisk, IsUnchanged, State, Survives}
use Rattle.sqlite.specs.Term.{eval_all}
use Rattle.sqlite.specs.Tree.{Trees}
use Rattle.am_item.specs.declared.item.Item.{Item}
use Rattle.am_store.specs.Failing.{IsExcused, IsPutExcused, IsReady, MakesRoom, PutsEach, RefusesPut, RefusesRow, fields_for, is_reached, is_replaced, table_for}
use Rattle.am_store.specs.Reading.{IsStamped}
use Rattle.am_store.specs.Rows.{IsConfig, IsSilenceRow, IsStore}
use Rattle.am_store.specs.Steps.{TakesOut}
use Rattle.am_store.specs.Stored.{Stored, stored_item, stored_items}
use Rattle.am_store.specs.Where.{config_stamp, hit, of_silence, of_tenant, silence_stamp}
use Rattle.am_store.proofs.Calls.{both_survive}
use Rattle.am_store.proofs.Failing.{excused_after, excused_before}
use Rattle.am_store.proofs.RowLists.{all_filter, all_weaker}

single : (o : Option Stored) → cons_option o [] ≡ option_to_list o
single None = refl
single (Some x) = refl

pub stored_more : (xs : List Item) (i : ℕ) (x : Item) → i < length xs → x ≡ get_or xs i x → stored_items (take (i + 1) xs) ≡ stored_items (take i xs) ++ option_to_list (stored_item x)
stored_more xs i x within is =
    ap stored_items (take_more xs i x within)
    ∙ filter_map-append stored_item (take i xs) (get_or xs i x ∷ [])
    ∙ ap (λ y. stored_items (take i xs) ++ cons_option (stored_item y) []) (sym is)
    ∙ ap (λ ys. stored_items (take i xs) ++ ys) (single (stored_item x))

append_over : (xs ys zs : List Stored) → (xs ++ ys) ++ zs ≡ xs ++ (ys ++ zs)
append_over [] ys zs = refl
append_over (x ∷ xs) ys zs = ap (λ l. x ∷ l) (append_over xs ys zs)

-- those before an item, the item and those after it
pub stored_around : (xs : List Item) (i : ℕ) (x : Item) → i < length xs → x ≡ get_or xs i x
    → stored_items xs ≡ stored_items (take i xs) ++ (option_to_list (stored_item x) ++ stored_items (drop (i + 1) xs))
stored_around xs i x within is =
    ap stored_items (sym (take-append-drop (i + 1) xs))
    ∙ filter_map-append stored_item (take (i + 1) xs) (drop (i + 1) xs)
    ∙ ap (λ ys. ys ++ stored_items (drop (i + 1) xs)) (stored_more xs i x within is)
    ∙ append_over (stored_items (take i xs)) (option_to_list (stored_item x)) (stored_items (drop (i + 1) xs))

-- ---- what is put in the place of others

pub puts_then : (t : List ℕ) (xs ys : List Stored) (a b c : Database) → PutsEach t xs a b → PutsEach t ys b c → PutsEach t (xs ++ ys) a c
puts_then t [] ys a b c none two = subst (λ d. PutsEach t ys d c) none two
puts_then t (x ∷ xs) ys a b c one two = (one.0, one.1, puts_then t xs ys one.0 b c one.2 two)

-- what is refused among more
pub refused_within : (t : List ℕ) (xs ys zs : List Stored) (a b : Database) → PutsEach t xs a b → RefusesPut t ys b → RefusesPut t (xs ++ (ys ++ zs)) a
refused_within t xs ys zs a b puts r = record {
  before = xs ++ r.before;
  x = r.x;
  after = r.after ++ zs;
  is = ap (λ l. xs ++ (l ++ zs)) r.is ∙ ap (λ l. xs ++ l) (append_over r.before (r.x ∷ r.after) zs) ∙ sym (append_over xs r.before (r.x ∷ (r.after ++ zs)));
  there = r.there;
  puts = puts_then t xs r.before a b r.there puts r.puts;
  cleared = r.cleared;
  room = r.room;
  refused = r.refused;
}

module _ (a b c : State) (P Q : Trees → Type 0) (clean : HasCleanDisk b) (s : Survives a b P) (s2 : Survives b c Q) (t : List ℕ) where
  -- a put behind others
  pub put_excused_within : (xs ys zs : List Stored) (e : Error) → PutsEach t xs a.now b.now → IsPutExcused t ys b c e → IsPutExcused t (xs ++ (ys ++ zs)) a c e
  put_excused_within xs ys zs e puts (inl excused) = inl (excused_after a b c P Q clean s s2 e excused)
  put_excused_within xs ys zs e puts (inr refused) = inr (refused_within t xs ys zs a.now b.now puts refused)

-- a put before others
pub put_excused_before : (a b c : State) (Q : Trees → Type 0) (t : List ℕ) (xs : List Stored) → Survives b c Q → {X : Type 0} (r : Result X Error) → IfErr r (IsPutExcused t xs a b) → IfErr r (IsPutExcused t xs a c)
put_excused_before a b c Q t xs s (Ok x) h = tt
put_excused_before a b c Q t xs s (Err e) (inl excused) = inl (excused_before a b c Q s {X = ℕ} (Err e) excused)
put_excused_before a b c Q t xs s (Err e) (inr refused) = inr refused

-- what only reads leaves what was ready
pub ready_still : (a b : State) → IsUnchanged a b → IsReady a → IsReady b
ready_still a b same ready = record {
  store = subst IsStore (sym same.0.now_is) ready.store;
  sound = subst IsDatabase (sym same.0.now_is) ready.sound;
  inside = same.0.mode ∙ ready.inside;
}

-- ---- a row is put in where room was made for it

-- the rows under a key were read and taken out, for what is put there
pub record Clears (t : List ℕ) (x : Stored) (old mid : State) : Type 0 where
  pub clean : HasCleanDisk mid
  pub survives : Survives old mid (λ _. ⊥)
  pub room : MakesRoom t x old.now mid.now
  pub inside : IsTrue old.in_transaction → IsTrue mid.in_transaction
  pub ready : IsReady old → IsReady mid

-- what was stored under the key is taken out
abbrev TakesOutAt : List ℕ → Stored → Database → Database → Type 0
TakesOutAt t x = TakesOut (table_for x.value).tree (is_replaced t x.value)

-- a query and then a removal make room for what isn't reached
pub clears : {t : List ℕ} {x : Stored} {old read mid : State} → HasCleanDisk mid → Survives old read (λ _. ⊥) → Survives read mid (λ _. ⊥)
    → IsStore old.now → IsUnchanged old read → is_reached t x old.now ≡ false
    → (IsStore read.now → TakesOutAt t x read.now mid.now) → (TakesOutAt t x old.now mid.now → IsStore mid.now)
    → (IsTrue read.in_transaction → IsTrue mid.in_transaction) → (IsReady read → IsDatabase mid.now) → Clears t x old mid
clears {t = t} {x = x} {old = old} {read = read} {mid = mid} clean one two store same unreached takes left inside sound =
    let out = subst (λ db. TakesOutAt t x db mid.now) same.0.now_is (takes (subst IsStore (sym same.0.now_is) store)) in
    record {
      clean = clean;
      survives = both_survive old read mid one two;
      room = record { exceeds = unreached; out = out };
      inside = λ was. inside (same.0.mode ∙ was);
      ready = λ ready. record { store = left out; sound = sound (ready_still old read same ready); inside = inside (same.0.mode ∙ ready.inside) };
    }

-- a row that isn't put in there
pub excused_cleared : {t : List ℕ} {x : Stored} {old mid new : State} {Q : Trees → Type 0} → Clears t x old mid → Survives mid new Q → (e : Error)
    → IsExcused mid new e ⊎ RefusesRow (table_for x.value) (fields_for t x.stamp x.value) mid.now.trees → IsPutExcused t (x ∷ []) old new e
excused_cleared {old = old} {mid = mid} {new = new} cleared survives e (inl excused) = inl (excused_after old mid new _ _ cleared.clean cleared.survives survives e excused)
excused_cleared {x = x} {old = old} {mid = mid} cleared survives e (inr refused) =
    inr (record { before = []; x = x; after = []; is = refl; there = old.now; puts = refl; cleared = mid.now; room = cleared.room; refused = refused })

-- ---- the rows of stamps

module _ (db : Database) (store : IsStore db) (t : List ℕ) (rows : List Row) where
  pub config_stamped : IsPermutation (map (λ r. eval_all config_stamp ((Text t ∷ []) ∷ r ∷ [])) (filter (hit of_tenant (Text t ∷ [])) (db.trees 1))) rows → All IsStamped rows
  config_stamped same =
      let shown : Row → Row = λ r. eval_all config_stamp ((Text t ∷ []) ∷ r ∷ []) in
      let found = filter (hit of_tenant (Text t ∷ [])) (db.trees 1) in
      let each = all_weaker IsConfig (λ r. IsStamped (shown r)) (λ r is. (is.stamp, rw is.is (record { moment = refl; instance = refl; incarnation = refl; count = refl; stamp = is.stamped }))) found
      (all_filter IsConfig _ (db.trees 1) store.configs) in
      All-permutation IsStamped (map shown found) rows same (All-map IsStamped shown found (All-from_recursion (λ r. IsStamped (shown r)) found each))

  pub silence_stamped : (id : List ℕ) → IsPermutation (map (λ r. eval_all silence_stamp ((Text t ∷ Text id ∷ []) ∷ r ∷ [])) (filter (hit of_silence (Text t ∷ Text id ∷ [])) (db.trees 3))) rows → All IsStamped rows
  silence_stamped id same =
      let shown : Row → Row = λ r. eval_all silence_stamp ((Text t ∷ Text id ∷ []) ∷ r ∷ []) in
      let found = filter (hit of_silence (Text t ∷ Text id ∷ [])) (db.trees 3) in
      let each = all_weaker IsSilenceRow (λ r. IsStamped (shown r)) (λ r is. (is.stamp, rw is.is (record { moment = refl; instance = refl; incarnation = refl; count = refl; stamp = is.stamped }))) found
      (all_filter IsSilenceRow _ (db.trees 3) store.silences) in
      All-permutation IsStamped (map shown found) rows same (All-map IsStamped shown found (All-from_recursion (λ r. IsStamped (shown r)) found each))
