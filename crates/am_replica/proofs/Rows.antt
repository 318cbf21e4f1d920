-- What is retired or put goes from the rows, or into them, as it does from what is held.
use Rattle.std.proofs.Common.{◌≡◌, ◌<◌, ◌&&◌, ◌||◌, inl, inr, ℕ, Bool, true, false, not, length, List, [], ◌∷◌, ◌++◌}
use Rattle.std.proofs.Common.{Option, Some, None, IfErr, Result, Ok, Err, OnErr, OnOk, filter, nat_le, refl, sym, ap}
use Rattle.std.proofs.Common.{subst, ◌∙◌, if◌then◌else◌}
use Rattle.std.specs.List.{list_any}
use Rattle.std.proofs.lemmas.List.{append-nil}
use Rattle.std.specs.Option.{option_map_or}
use Rattle.std.proofs.lemmas.Bool.{cases_Bool, false≢true}
use Rattle.am_tenant.specs.Names.{same}
use Rattle.am_item.specs.Best.{IsRising, all_joined, item_at}
use Rattle.am_book.specs.Retired.{is_key_retired}
use Rattle.am_item.specs.Key.{Key, SilenceKey, has_key, key_of}
use Rattle.am_item.specs.declared.fault.Fault.{Fault}
use Rattle.am_item.specs.declared.fault.Fault.TheVariants.{OutOfMemory, CountsExhausted, PatternNotBuilt, StoreRefused}
use Rattle.am_item.specs.Retirement.{is_retired, retires_at, thing_retires_at}
use Rattle.am_item.specs.declared.item.Item.{Item}
use Rattle.am_item.specs.declared.item.Thing.{Thing}
use Rattle.am_item.specs.declared.item.Thing.TheVariants as thing
use Rattle.am_item.specs.declared.key.ThingKey.TheVariants.{Configuration as ConfigurationKey}
use Rattle.am_item.specs.declared.key.ThingKey.TheVariants as key
use Rattle.am_item.proofs.Rising.{here_at, later_at}
use Rattle.am_item.specs.Key as item
use Rattle.am_item.proofs.Meaning.{at_keyed}
use Rattle.am_rows.specs.Rows.{Keeps, Makes as MakesRows, has_stored, is_stored, put_rows, rows_of, stored_in}
use Rattle.am_rows.specs.Rows.{without_key, without_silences}
use Rattle.am_rows.specs.declared.refusal.StoreRefusal.{StoreRefusal}
use Rattle.am_text.specs.declared.failure.Failure.{Failure}
use Rattle.am_text.specs.declared.failure.Failure.TheVariants as failure
use Rattle.am_rows.proofs.Dropping.{last_gone}
use Rattle.am_rows.proofs.Following.{drop_follows, is_kind, put_follows, unstored_absent, rows_rise, rows_stored}
use Rattle.am_item.proofs.BestLaws.{best-rising}
use Rattle.am_item.proofs.Joining.{all_joined-merged}
use Rattle.std.specs.List.Sorted.{IsStrictlySortedBy}
use Rattle.am_replica.specs.Retiring.{StopsRetiring}
use Rattle.am_replica.specs.Storing.{StopsStoring, silence_named}

abbrev Pairs : Type 0
Pairs = List (List ℕ × Item)

none_stored : (items : List Item) → has_stored items ≡ false → stored_in items ≡ []
unfolding stored_in
none_stored [] none = refl
none_stored (x ∷ items) none = elim (cases_Bool (is_stored x)) [
  | inl is ↦ absurd (false≢true (sym none ∙ ap (λ b. b || has_stored items) is))
  | inr not_stored ↦ rw not_stored (none_stored items (sym (ap (λ b. b || has_stored items) not_stored) ∙ none))
]

-- where nothing of what is put is stored, all rows stay
pub no_puts : (tenant : List ℕ) (items : List Item) (pairs : Pairs) → has_stored items ≡ false → MakesRows tenant (put_rows items) pairs pairs
unfolding put_rows
no_puts tenant items pairs none t = by (same t tenant)
  where
    by : (b : Bool) → rows_of t pairs ≡ (if b then put_rows items (rows_of t pairs) else rows_of t pairs)
    by true = sym (ap (all_joined (rows_of t pairs)) (none_stored items none))
    by false = refl

-- ---- what retires

abbrev Silences : Type 0
Silences = List (List ℕ × List ℕ)

-- what has no row leaves the rows as they are
unstored_goes : (key : Key) → is_kind key ≡ false → (b : Bool) (old new : List Item) → new ≡ (if b then filter (λ item. not (has_key key item)) old else old) → stored_in old ≡ stored_in new
unstored_goes key kind true old new is = sym (unstored_absent key kind old) ∙ drop_follows key old ∙ sym (ap stored_in is)
unstored_goes key kind false old new is = sym (ap stored_in is)

or_true : (a b : Bool) → b ≡ true → (a || b) ≡ true
or_true true b is = refl
or_true false b is = is

-- .. goes from the rows, where it is a silence's
pub goes_on : (tenant : List ℕ) (key : Key) (silences : Silences) (t : List ℕ) (xs old new : List Item) → (key ≡ ConfigurationKey → ⊥)
    → new ≡ (if same t tenant then filter (λ item. not (has_key key item)) old else old) → without_silences silences t xs ≡ stored_in old
    → without_silences (silences ++ silence_named tenant key) t xs ≡ stored_in new
goes_on tenant key.Configuration silences t xs old new retires less goes = absurd (retires refl)
goes_on tenant (key.Silence id) silences t xs old new retires less goes =
    last_gone silences (tenant, id) t xs ∙ ap (λ ys. if same t tenant then without_key (SilenceKey id) ys else ys) goes ∙ by (same t tenant) less
  where
    by : (b : Bool) → new ≡ (if b then filter (λ item. not (has_key (SilenceKey id) item)) old else old) → (if b then without_key (SilenceKey id) (stored_in old) else stored_in old) ≡ stored_in new
    by true is = drop_follows (SilenceKey id) old ∙ sym (ap stored_in is)
    by false is = sym (ap stored_in is)
goes_on tenant (key.Alert labels) silences t xs old new retires less goes =
    ap (λ ss. without_silences ss t xs) (append-nil silences) ∙ goes ∙ unstored_goes (key.Alert labels) refl (same t tenant) old new less
goes_on tenant (key.SentEntry entry) silences t xs old new retires less goes =
    ap (λ ss. without_silences ss t xs) (append-nil silences) ∙ goes ∙ unstored_goes (key.SentEntry entry) refl (same t tenant) old new less

-- one of the items passes the test, where one of those that are left does
any_within : (p q : Item → Bool) (xs : List Item) → list_any p (filter q xs) ≡ true → list_any p xs ≡ true
any_within p q [] some = some
any_within p q (x ∷ xs) some = elim (cases_Bool (q x)) [
  | inl left ↦ elim (cases_Bool (p x)) [
    | inl first ↦ rw first refl
    | inr later ↦ rw later (any_within p q xs (sym (ap (λ b. b || list_any p (filter q xs)) later) ∙ sym (ap (λ b. list_any p (if b then x ∷ filter q xs else filter q xs)) left) ∙ some))
  ]
  | inr out ↦ or_true (p x) _ (any_within p q xs (sym (ap (λ b. list_any p (if b then x ∷ filter q xs else filter q xs)) out) ∙ some))
]

pub any_left : (p : Item → Bool) (b : Bool) (key : Key) (old new : List Item) → new ≡ (if b then filter (λ item. not (has_key key item)) old else old)
    → list_any p new ≡ true → list_any p old ≡ true
any_left p true key old new is some = any_within p (λ item. not (has_key key item)) old (ap (list_any p) (sym is) ∙ some)
any_left p false key old new is some = ap (list_any p) (sym is) ∙ some

-- what is found under its key and is retired is retired
key_retires : (moment : ℕ) (key : Key) (held : List Item) → option_map_or (is_retired moment) (item_at key held) false ≡ true → is_key_retired moment held key ≡ true
key_retires moment key [] found = absurd (false≢true found)
key_retires moment key (x ∷ held) found = elim (cases_Bool (has_key key x)) [
  | inl has ↦ elim (cases_Bool (is_retired moment x)) [
    | inl retired ↦ rw (has, retired) refl
    | inr stays ↦ absurd (false≢true (sym stays ∙ sym (ap (λ o. option_map_or (is_retired moment) o false) (here_at key x held has)) ∙ found))
  ]
  | inr other ↦ rw other (key_retires moment key held (sym (ap (λ o. option_map_or (is_retired moment) o false) (later_at key x held other)) ∙ found))
]

-- a silence among those that go was retired
some_retires : {P : Type 0} (silences : Silences) (tenant : List ℕ) (key : Key) → (0 < length silences → P) → ((id : List ℕ) → key ≡ SilenceKey id → P)
    → 0 < length (silences ++ silence_named tenant key) → P
some_retires silences tenant key.Configuration before own some = before (subst (λ ss. 0 < length ss) (append-nil silences) some)
some_retires silences tenant (key.Silence id) before own some = own id refl
some_retires silences tenant (key.Alert labels) before own some = before (subst (λ ss. 0 < length ss) (append-nil silences) some)
some_retires silences tenant (key.SentEntry entry) before own some = before (subst (λ ss. 0 < length ss) (append-nil silences) some)

pub retires_more : (moment : ℕ) (tenant : List ℕ) (key : Key) (old new : Silences) (before : List ℕ → List Item) (now : List Item)
    → (0 < length old → StopsRetiring moment before StoreRefused) → ((test : Item → Bool) → list_any test now ≡ true → list_any test (before tenant) ≡ true)
    → option_map_or (is_retired moment) (item_at key now) false ≡ true → new ≡ old ++ silence_named tenant key → 0 < length new → StopsRetiring moment before StoreRefused
retires_more moment tenant key old new before now some within retired noted more =
    some_retires old tenant key some
    (λ id is. (
      tenant,
      id,
      subst (λ k. is_key_retired moment (before tenant) k ≡ true) is
          (within (λ item. has_key key item && is_retired moment item) (key_retires moment key now retired)),
    ))
    (subst (λ ss. 0 < length ss) noted more)

pub stops_dropping : (moment : ℕ) (before : List ℕ → List Item) (some : Bool) (fault : Fault) → (some ≡ true → StopsRetiring moment before StoreRefused)
    → StopsStoring some fault → StopsRetiring moment before fault
stops_dropping moment before some OutOfMemory retires stops = tt
stops_dropping moment before some CountsExhausted retires stops = absurd stops
stops_dropping moment before some PatternNotBuilt retires stops = absurd stops
stops_dropping moment before some StoreRefused retires stops = retires stops

-- a configuration never retires
pub never_configuration : (moment : ℕ) (key : Key) (held : List Item) → option_map_or (is_retired moment) (item_at key held) false ≡ true → key ≡ ConfigurationKey → ⊥
unfolding retires_at
never_configuration moment key held retired is = of (item_at key held) (λ x found. at_keyed key held x found ∙ is) retired
  where
    thing_never : (written : ℕ) (t : Thing) → item.key_in t ≡ ConfigurationKey → option_map_or (λ at. nat_le at moment) (thing_retires_at written t) false ≡ true → ⊥
    thing_never written (thing.Configuration text) is told = false≢true told
    thing_never written (thing.Silence silence) is told = let clash = is in cc
    thing_never written (thing.Alert alert) is told = let clash = is in cc
    thing_never written (thing.SentEntry entry) is told = let clash = is in cc

    of : (o : Option Item) → ((x : Item) → o ≡ Some x → key_of x ≡ ConfigurationKey) → option_map_or (is_retired moment) o false ≡ true → ⊥
    of None keyed told = false≢true told
    of (Some x) keyed told = thing_never x.stamp.moment x.thing (keyed x refl) told

pub ok_any : {A E P : Type 0} (r : Result A E) → P → OnOk r P
ok_any (Ok x) p = p
ok_any (Err e) p = tt

pub err_any : {A E P : Type 0} (r : Result A E) → P → OnErr r P
err_any (Ok x) p = tt
err_any (Err e) p = p
