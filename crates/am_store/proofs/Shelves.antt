-- What the calls of a store make of its rows, as items.
use Rattle.std.proofs.Common.{◌≡◌, ◌⊎◌, inl, inr, ℕ, Bool, true, false, cond, not, ◌||◌, List, [], ◌∷◌, ◌++◌, map, IsSome, Option, Some, None, option_and_then, option_map, IsTrue, arith, refl, sym, ap, ◌∙◌, subst}
use Rattle.std.specs.List.{cons_option, list_all, list_any}
use Rattle.std.specs.List.Sorted.{IsPermutation, IsStrictlySortedBy}
use Rattle.std.specs.Option.{option_to_list}
use Rattle.std.specs.Ordering.{is_eq}
use Rattle.std.proofs.lemmas.Bool.{and_parts, both_ways, cases_Bool, cond-false, cond-true}
use Rattle.std.proofs.lemmas.List.Sorted.{IsPermutation-sym, length_permutation}
use Rattle.sqlite.proofs.Callers.{one_permutation}
use Rattle.sqlite.specs.Effect.{Database}
use Rattle.sqlite.specs.State.{HasCleanDisk, State, Survives}
use Rattle.sqlite.specs.declared.error.Error.{Error}
use Rattle.sqlite.specs.declared.error.Error.TheVariants.{SqliteFailure}
use Rattle.sqlite.specs.declared.error.ErrorCode.TheVariants as code
use Rattle.sqlite.specs.Tree.{Trees}
use Rattle.sqlite_keyed.proofs.ListLemmas.{IsPermutation-filter}
use Rattle.sqlite_trees.proofs.Doubt.{clean_of, no_doubt}
use Rattle.am_tenant.specs.Names.{same}
use Rattle.am_tenant.proofs.Same.{eq_from_same, same-refl}
use Rattle.am_item.specs.Best.{IsRising, all_joined, best, item_at}
use Rattle.am_item.specs.Key.{Key, has_key, key_cmp, key_of}
use Rattle.am_item.specs.declared.item.Item.{Item}
use Rattle.am_item.specs.declared.item.Thing.{Thing}
use Rattle.am_item.specs.declared.item.Thing.TheVariants as thing
use Rattle.am_item.specs.declared.stamp.Stamp.{Stamp}
use Rattle.am_item.proofs.BestLaws.{rising-best}
use Rattle.am_item.proofs.Joining.{all_joined-merged}
use Rattle.am_item.proofs.Meaning.{at_keyed}
use Rattle.am_item.proofs.Keys.{key_same}
use Rattle.am_item.proofs.Rising.{AllAbove, here_at, later_at, none_above, rising_same}
use Rattle.am_text.specs.Outcome.{ForRefused}
use Rattle.am_text.specs.declared.failure.Failure.{Failure}
use Rattle.am_text.specs.declared.failure.Failure.TheVariants.{Refused, OutOfMemory}
use Rattle.am_rows.specs.Refusing.{MayRefuse, Wears}
use Rattle.am_rows.specs.Refusing as rows
use Rattle.am_rows.specs.declared.refusal.StoreRefusal.{StoreRefusal}
use Rattle.am_rows.specs.declared.refusal.StoreRefusal.TheVariants as refusal
use Rattle.am_rows.specs.Rows.{Keeps, Makes, is_kept, is_stored, no_rows, put_rows, rows_of, stored_in, without_key}
use Rattle.am_rows.proofs.Following.{at-filter, by_kind, is_kind, drop_follows, put_follows, rising-filter, sifted}
use Rattle.am_share.specs.Pairs.{things_of}
use Rattle.am_store.specs.Best.{Holds}
use Rattle.am_store.specs.Items.{is_empty, item_of, kept_in, with_item}
use Rattle.am_store.specs.Failing.{IsCaused, IsExcused, IsJudged, IsPutExcused, MayFail, Rejects, medium_of}
use Rattle.am_store.specs.Opening.{IsForeign, Opens}
use Rattle.am_store.specs.Rows.{IsStore, pairs_in}
use Rattle.am_store.specs.Steps.{Empties, Removes, Stores}
use Rattle.am_store.specs.Stored.{ConfigurationText, Content, Puts, SilenceWords, Stored, latest, of_key, stamped, stored_at, stored_item, stored_items, stored_thing}
use Rattle.am_store.specs.Stored as stored
use Rattle.am_store.specs.Reading.{config_key, silence_key}
use Rattle.sqlite.specs.Order.{Row}
use Rattle.am_store.specs.Tables.{no_schema}
use Rattle.am_store.proofs.KeyOrder.{key_stored}
use Rattle.am_store.proofs.Bests.{put_joins, put_best}
use Rattle.am_store.proofs.Failing.{told}

-- ---- what is stored, as items

item_back : (s : Stamp) (c : Content) → stored_item (item_of (stamped s c)) ≡ Some (stamped s c)
item_back s (ConfigurationText text) = refl
item_back s (SilenceWords words) = refl

items_back : (xs : List Stored) → stored_items (map item_of xs) ≡ xs
items_back [] = refl
items_back (x ∷ xs) = ap (λ o. cons_option o (stored_items (map item_of xs))) (item_back x.stamp x.value) ∙ ap (λ ys. x ∷ ys) (items_back xs)

abbrev view : Option Item → Option Stored
view o = option_and_then stored_item o

thing_seen : (s : Stamp) (t : Thing) → cond (is_kept t) (Some (record { stamp = s; thing = t })) None ≡ option_map item_of (stored_thing s t)
thing_seen s (thing.Configuration text) = refl
thing_seen s (thing.Silence silence) = refl
thing_seen s (thing.Alert alert) = refl
thing_seen s (thing.SentEntry entry) = refl

seen : (o : Option Item) → sifted is_stored o ≡ option_map item_of (view o)
seen None = refl
seen (Some x) = thing_seen x.stamp x.thing

abbrev Pairs : Type 0
Pairs = List (List ℕ × Stored)

-- a store tells what is stored of a list that it holds
determined : (t : List ℕ) (a b : List Item) (pairs : Pairs) → IsRising a → IsRising b → Holds t a pairs → Holds t b pairs → stored_in a ≡ stored_in b
unfolding stored_in
determined t a b pairs up up' h h' =
    rising_same _ _ (rising-filter is_stored a up) (rising-filter is_stored b up')
    (λ k.
    at-filter is_stored k a up ∙ seen (item_at k a) ∙ ap (option_map item_of) (sym (h k) ∙ h' k)
    ∙ sym (at-filter is_stored k b up' ∙ seen (item_at k b)))

things_map : (t : List ℕ) (pairs : Pairs) → things_of t (map with_item pairs) ≡ map item_of (things_of t pairs)
unfolding things_of
things_map t [] = refl
things_map t (p ∷ pairs) = elim (cases_Bool (same t p.0)) [
  | inl own ↦ rw own (ap (λ xs. item_of p.1 ∷ xs) (things_map t pairs))
  | inr other ↦ rw other (things_map t pairs)
]

-- a tenant's items, as they come
abbrev own_items : List ℕ → Pairs → List Item
own_items t pairs = best (map item_of (things_of t pairs))

nothing_held : (t : List ℕ) → Holds t [] []
unfolding stored_at things_of
nothing_held t key = refl

puts_all : (t : List ℕ) (pairs : Pairs) → Puts t (stored_items (map item_of (things_of t pairs))) [] pairs
unfolding stored_at things_of
puts_all t pairs key = ap (λ xs. latest None (of_key key xs)) (sym (items_back (things_of t pairs)))

holds_own : (t : List ℕ) (pairs : Pairs) → Holds t (own_items t pairs) pairs
holds_own t pairs = put_best t (map item_of (things_of t pairs)) [] pairs (nothing_held t) (puts_all t pairs)

-- ---- what a database has

has_tables : (db : Database) → IsStore db → kept_in db ≡ map with_item (pairs_in db.trees)
unfolding kept_in
has_tables db is = cond-false _ _ _ (ap (λ s. is_empty s.tables) is.schema)

pub kept_blank : (db : Database) → db.schema ≡ no_schema → kept_in db ≡ []
unfolding kept_in
kept_blank db is = cond-true _ _ _ (ap (λ s. is_empty s.tables) is)

pub own : (t : List ℕ) (db : Database) → IsStore db → rows_of t (kept_in db) ≡ stored_in (own_items t (pairs_in db.trees))
unfolding rows_of
own t db is = ap (λ xs. stored_in (best xs)) (ap (things_of t) (has_tables db is) ∙ things_map t (pairs_in db.trees))

pub stays : (old new : Database) → new ≡ old → Keeps (kept_in old) (kept_in new)
stays old new is t = ap (λ db. rows_of t (kept_in db)) is

rises-all : (xs ys : List Item) → IsRising xs → IsRising (all_joined xs ys)
rises-all xs ys up = subst IsRising (sym (all_joined-merged xs ys up)) (rising-best (xs ++ ys))

-- what one tenant's change makes of all
one_makes : (t : List ℕ) (change : List Item → List Item) (old new : Database) → IsStore old → IsStore new
    → rows_of t (kept_in new) ≡ change (rows_of t (kept_in old))
    → ((u : List ℕ) → same u t ≡ false → things_of u (pairs_in new.trees) ≡ things_of u (pairs_in old.trees))
    → Makes t change (kept_in old) (kept_in new)
one_makes t change old new is was one others u = elim (cases_Bool (same u t)) [
  | inl it ↦
      subst (λ v. rows_of v (kept_in new) ≡ change (rows_of v (kept_in old))) (sym (eq_from_same u t it)) one
      ∙ sym (cond-true _ _ _ it)
  | inr other ↦
      own u new was ∙ ap (λ xs. stored_in (best (map item_of xs))) (others u other) ∙ sym (own u old is)
      ∙ sym (cond-false _ _ _ other)
]

pub puts : (t : List ℕ) (items : List Item) (old new : Database) → IsStore old → Stores t (stored_items items) old new → Makes t (put_rows items) (kept_in old) (kept_in new)
puts t items old new is made = one_makes t (put_rows items) old new is made.store one made.others
  where
    up : IsRising (own_items t (pairs_in old.trees))
    up = rising-best (map item_of (things_of t (pairs_in old.trees)))

    one : rows_of t (kept_in new) ≡ put_rows items (rows_of t (kept_in old))
    one =
        own t new made.store
        ∙ determined t (own_items t (pairs_in new.trees)) (all_joined (own_items t (pairs_in old.trees)) items) (pairs_in new.trees) (rising-best (map item_of (things_of t (pairs_in new.trees)))) (rises-all (own_items t (pairs_in old.trees)) items up)
        (holds_own t (pairs_in new.trees)) (put_joins t (own_items t (pairs_in old.trees)) items (pairs_in old.trees) (pairs_in new.trees) up (holds_own t (pairs_in old.trees)) made.puts)
        ∙ sym (put_follows (own_items t (pairs_in old.trees)) items up)
        ∙ ap (put_rows items) (sym (own t old is))

-- a look-up where a key is gone
lacking : (key k : Key) (o : Option Item) → ((x : Item) → o ≡ Some x → key_of x ≡ k)
    → cond (is_eq (key_cmp key k)) None (view o) ≡ view (sifted (λ item. not (has_key key item)) o)
lacking key k None keyed = nothing (is_eq (key_cmp key k))
  where
    nothing : (b : Bool) → cond b None (view None) ≡ None
    nothing true = refl
    nothing false = refl
lacking key k (Some x) keyed = split (is_eq (key_cmp key k)) ∙ ap (λ q. view (cond (not (is_eq (key_cmp key q))) (Some x) None)) (sym (keyed x refl))
  where
    split : (b : Bool) → cond b None (view (Some x)) ≡ view (cond (not b) (Some x) None)
    split true = refl
    split false = refl

pub removes : (t : List ℕ) (key : Key) (old new : Database) → IsStore old → Removes t key old new → Makes t (without_key key) (kept_in old) (kept_in new)
removes t key old new is made = one_makes t (without_key key) old new is made.store one made.others
  where
    up : IsRising (own_items t (pairs_in old.trees))
    up = rising-best (map item_of (things_of t (pairs_in old.trees)))

    held : Holds t (without_key key (own_items t (pairs_in old.trees))) (pairs_in new.trees)
    held k =
        made.removed k
        ∙ ap (λ o. cond (is_eq (key_cmp key k)) None o) (holds_own t (pairs_in old.trees) k)
        ∙ lacking key k (item_at k (own_items t (pairs_in old.trees))) (at_keyed k (own_items t (pairs_in old.trees)))
        ∙ ap view (sym (at-filter (λ item. not (has_key key item)) k (own_items t (pairs_in old.trees)) up))

    one : rows_of t (kept_in new) ≡ without_key key (rows_of t (kept_in old))
    one =
        own t new made.store
        ∙ determined t (own_items t (pairs_in new.trees)) (without_key key (own_items t (pairs_in old.trees))) (pairs_in new.trees) (rising-best (map item_of (things_of t (pairs_in new.trees)))) (rising-filter (λ item. not (has_key key item)) (own_items t (pairs_in old.trees)) up)
        (holds_own t (pairs_in new.trees)) held
        ∙ sym (drop_follows key (own_items t (pairs_in old.trees)))
        ∙ ap (without_key key) (sym (own t old is))

no_items : stored_in (best []) ≡ []
unfolding stored_in best
no_items = refl

pub empties : (t : List ℕ) (old new : Database) → IsStore old → Empties t old new → Makes t no_rows (kept_in old) (kept_in new)
empties t old new is made =
    one_makes t no_rows old new is made.store
    (own t new made.store ∙ ap (λ xs. stored_in (best (map item_of xs))) (made.drops t ∙ cond-true _ _ _ (same-refl t)) ∙ no_items)
    (λ u other. made.drops u ∙ cond-false _ _ _ other)

-- ---- opening

pub opens_store : (old new : State) → Opens old new → IsStore new.now
opens_store old new (inl found) = subst IsStore (sym found.1.0) found.0
opens_store old new (inr made) = made.made.store

no_rows_of : (t : List ℕ) → rows_of t [] ≡ []
unfolding rows_of things_of
no_rows_of t = no_items

pub opens : (old new : State) → Opens old new → Keeps (kept_in old.now) (kept_in new.now)
opens old new (inl found) t = stays old.now new.now found.1.0 t
opens old new (inr made) t =
    ap (rows_of t) (has_tables new.now made.made.store ∙ ap (map with_item) made.made.empty ∙ sym (kept_blank old.now made.made.blank))

-- ---- reading

none_named : (t : List ℕ) (pairs : Pairs) → list_any (λ p. same t p.0) pairs ≡ false → things_of t pairs ≡ []
unfolding things_of
none_named t [] none = refl
none_named t (p ∷ pairs) none = elim (cases_Bool (same t p.0)) [
  | inl own ↦ absurd (let clash : true ≡ false = sym (ap (λ b. b || list_any (λ q. same t q.0) pairs) own) ∙ none in cc)
  | inr other ↦ rw other (none_named t pairs (sym (ap (λ b. b || list_any (λ q. same t q.0) pairs) other) ∙ none))
]

pub unnamed_empty : (t : List ℕ) (db : Database) → IsStore db → list_any (λ pair. same t pair.0) (pairs_in db.trees) ≡ false → rows_of t (kept_in db) ≡ []
unnamed_empty t db is none = own t db is ∙ ap (λ xs. stored_in (best (map item_of xs))) (none_named t (pairs_in db.trees) none) ∙ no_items

-- one that is stored has its item's key
same_has : (key : Key) (y : Item) (s : Stored) → stored_item y ≡ Some s → stored.has_key key s ≡ has_key key y
same_has key y s is = ap (λ q. is_eq (key_cmp key q)) (sym (key_stored y s is))

-- what a rising list has of a key
one_of : (key : Key) (items : List Item) → IsRising items → of_key key (stored_items items) ≡ option_to_list (view (item_at key items))
unfolding IsStrictlySortedBy
one_of key [] up = refl
one_of key (y ∷ ys) up = elim (cases_Bool (has_key key y)) [
  | inl here ↦
      let above : AllAbove key ys = subst (λ q. AllAbove q ys) (sym (key_same key (key_of y) here)) up.0 in
      let none : of_key key (stored_items ys) ≡ [] = one_of key ys up.1 ∙ ap (λ o. option_to_list (view o)) (none_above key ys above) in
      found (stored_item y) (λ s is. same_has key y s is ∙ here) none refl ∙ sym (ap (λ o. option_to_list (view o)) (here_at key y ys here))
  | inr other ↦
      passed (stored_item y) (λ s is. same_has key y s is ∙ other) refl ∙ one_of key ys up.1
      ∙ sym (ap (λ o. option_to_list (view o)) (later_at key y ys other))
]
  where
    found : (o : Option Stored) → ((s : Stored) → o ≡ Some s → stored.has_key key s ≡ true) → of_key key (stored_items ys) ≡ []
        → stored_item y ≡ o → of_key key (cons_option o (stored_items ys)) ≡ option_to_list o
    found None has none is = none
    found (Some s) has none is = cond-true _ _ _ (has s refl) ∙ ap (λ xs. s ∷ xs) none

    passed : (o : Option Stored) → ((s : Stored) → o ≡ Some s → stored.has_key key s ≡ false)
        → stored_item y ≡ o → of_key key (cons_option o (stored_items ys)) ≡ of_key key (stored_items ys)
    passed None lacks is = refl
    passed (Some s) lacks is = cond-false _ _ _ (lacks s refl)

alone : (xs : List Stored) (o : Option Stored) → IsPermutation xs (option_to_list o) → latest None xs ≡ o
alone [] None same = refl
alone (x ∷ xs) None same = absurd (let e = length_permutation _ _ same in omega (arith, e))
alone xs (Some x) same = ap (latest None) (one_permutation x xs (IsPermutation-sym xs (x ∷ []) same))

holds_read : (t : List ℕ) (items : List Item) (pairs : Pairs) → IsRising items → IsPermutation (things_of t pairs) (stored_items items) → Holds t items pairs
unfolding stored_at
holds_read t items pairs up same key =
    alone (of_key key (things_of t pairs)) (view (item_at key items))
    (subst (IsPermutation (of_key key (things_of t pairs))) (one_of key items up) (IsPermutation-filter (λ x. stored.has_key key x) _ _ same))

pub reads_all : (t : List ℕ) (db : Database) (items : List Item) → IsStore db → IsPermutation (things_of t (pairs_in db.trees)) (stored_items items)
    → IsRising items → stored_in items ≡ items → items ≡ rows_of t (kept_in db)
reads_all t db items is same up whole =
    sym whole
    ∙ determined t items (own_items t (pairs_in db.trees)) (pairs_in db.trees) up (rising-best (map item_of (things_of t (pairs_in db.trees))))
    (holds_read t items (pairs_in db.trees) up same) (holds_own t (pairs_in db.trees))
    ∙ sym (own t db is)

-- items with keys of configurations and silences are stored
kinds_stored : (xs : List Item) → list_all is_kind (map key_of xs) ≡ true → stored_in xs ≡ xs
unfolding stored_in
kinds_stored [] all = refl
kinds_stored (x ∷ xs) all =
    let both = and_parts (is_kind (key_of x)) (list_all is_kind (map key_of xs)) all in
    cond-true _ _ _ (by_kind x.thing ∙ both.0) ∙ ap (λ ys. x ∷ ys) (kinds_stored xs both.1)

all_configs : (cs ss : List Row) → list_all is_kind (map config_key cs ++ map silence_key ss) ≡ true
all_configs [] [] = refl
all_configs [] (s ∷ ss) = all_configs [] ss
all_configs (c ∷ cs) ss = all_configs cs ss

pub rows_whole : (xs : List Item) (cs ss : List Row) → map key_of xs ≡ map config_key cs ++ map silence_key ss → stored_in xs ≡ xs
rows_whole xs cs ss keys = kinds_stored xs (ap (list_all is_kind) keys ∙ all_configs cs ss)

-- ---- the disk

pub clean_is : (s : State) → s.is_clean ≡ true → HasCleanDisk s
clean_is s is = no_doubt s.is_clean is

pub is_clean : (s : State) → HasCleanDisk s → s.is_clean ≡ true
is_clean s none = clean_of s.is_clean none

pub cleaner : (old new : State) (P : Trees → Type 0) → Survives old new P → new.is_clean ≡ true → old.is_clean ≡ true
cleaner old new P s is = let now = clean_is new is in is_clean old (omega (arith, s.clean, now))

pub not_shut : (b : Bool) → not b ≡ false → IsTrue b
not_shut true h = refl
not_shut false h = absurd (let clash = h in cc)

-- ---- refusals

shut_is : (b : Bool) → not b ≡ true → b ≡ false
shut_is true h = absurd (let clash = h in cc)
shut_is false h = refl

pub worn : (old new : State) (P : Trees → Type 0) → Survives old new P → new.is_clean ≡ true → Wears (medium_of old) (medium_of new)
worn old new P s clean = record {
  counts = s.counts;
  shuts = λ shut. elim (cases_Bool old.is_open) [
    | inl was ↦ elim (s.closes (clean_is new clean) was) [
      | inl still ↦ absurd (both_ways _ (shut_is new.is_open shut) still)
      | inr faults ↦ inr faults
    ]
    | inr before ↦ inl (ap not before)
  ];
}

module _ (old new : State) (unlimited : old.step_limit ≡ None) where
  may_refuse : MayFail old new → MayRefuse (medium_of old) (medium_of new)
  may_refuse (inl faults) = inr faults
  may_refuse (inr (inl shut)) = inl (ap not shut)
  may_refuse (inr (inr limit)) = absurd (let some = subst IsSome unlimited limit in cc)

  pub caused : (failure : Failure StoreRefusal) → IsCaused old new failure → rows.IsCaused (MayRefuse (medium_of old) (medium_of new)) failure
  caused (Refused why) is = (is.0, may_refuse is.1)
  caused OutOfMemory is = tt

  pub excused : (e : Error) (failure : Failure StoreRefusal) → (e ≡ SqliteFailure code.OutOfMemory → failure ≡ OutOfMemory)
      → ForRefused failure (λ why. why ≡ refusal.Database) → IsExcused old new e → rows.IsCaused (MayRefuse (medium_of old) (medium_of new)) failure
  excused e failure memory database is = caused failure (told old new e failure memory database is)

  pub put_excused : (t : List ℕ) (items : List Item) (e : Error) (failure : Failure StoreRefusal) → (e ≡ SqliteFailure code.OutOfMemory → failure ≡ OutOfMemory)
      → ForRefused failure (λ why. why ≡ refusal.Database) → IsPutExcused t (stored_items items) old new e
      → rows.IsCaused (MayRefuse (medium_of old) (medium_of new) ⊎ Rejects t items) failure
  put_excused t items e OutOfMemory memory database is = tt
  put_excused t items e (Refused why) memory database (inl (inl out)) = absurd (let no = memory out in cc)
  put_excused t items e (Refused why) memory database (inl (inr may)) = (database, inl (may_refuse may))
  put_excused t items e (Refused why) memory database (inr refuses) = (database, inr (inr (old.now, refuses)))

  pub judged : (failure : Failure StoreRefusal) → (failure ≡ Refused refusal.Foreign → old.now.schema ≡ no_schema → ⊥) → IsJudged old new failure
      → rows.IsJudged (IsForeign old.now) (MayRefuse (medium_of old) (medium_of new)) failure
  judged (Refused why) used (inl foreign) = inl (foreign.0, record { used = used (ap Refused foreign.0); foreign = foreign.1 })
  judged (Refused why) used (inr is) = inr (is.0, may_refuse is.1)
  judged OutOfMemory used is = tt
