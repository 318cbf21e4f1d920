-- What is known to be muted, timer by timer.
use Rattle.std.proofs.Common.{◌≡◌, ◌∙◌, ℕ, Bool, true, false, not, ◌&&◌, ◌||◌, List, [], ◌∷◌, ◌++◌, Option, Some}
use Rattle.std.proofs.Common.{None, IfSome, get_or, is_some, length, suc, unwrap_or, zero, ◌<◌, arith, refl, sym, ap}
use Rattle.std.proofs.Common.{inl, inr, if◌then◌else◌}
use Rattle.std.specs.List.{list_any}
use Rattle.std.specs.Map.{lookup}
use Rattle.am_item.specs.declared.fault.Fault.{Fault}
use Rattle.am_item.specs.declared.fault.Fault.TheVariants.{OutOfMemory, CountsExhausted, PatternNotBuilt, StoreRefused}
use Rattle.am_item.specs.declared.item.Item.{Item}
use Rattle.am_labels.specs.declared.Label.{Label}
use Rattle.am_tenant.specs.Names.{same}
use Rattle.am_tenant.proofs.Same.{same_tells, same-refl}
use Rattle.am_timer.specs.Timer.{Timer}
use Rattle.am_node.specs.Ticks.{AreMuted, StopsMuting, has_muted, is_flush, is_flush_of, muted_at, muted_for}
use Rattle.am_node.specs.Ticks.{some_flush}

abbrev pub Muteds : Type 0
Muteds = List (List ℕ × List (List Label))

-- what is found is right
pub found_right : (moment : ℕ) (held : List ℕ → List Item) (muted : Muteds) (t : List ℕ) → AreMuted moment held muted → has_muted t muted ≡ true →
    muted_for t muted ≡ muted_at moment (held t)
unfolding muted_for
found_right moment held muted t right there = by (lookup (λ s. same t s) muted) (right t) there
  where
    by : (found : Option (List (List Label))) → IfSome found (λ sets. sets ≡ muted_at moment (held t)) → is_some found ≡ true → unwrap_or found [] ≡ muted_at moment (held t)
    by None is there = cc
    by (Some sets) is there = is

-- what isn't known is as nothing
pub found_as : (muted : Muteds) (t : List ℕ) (found : Option (List (List Label))) → lookup (λ s. same t s) muted ≡ found → muted_for t muted ≡ unwrap_or found []
unfolding muted_for
found_as muted t found is = ap (λ o. unwrap_or o []) is

-- what is put
pub put_right : (moment : ℕ) (held : List ℕ → List Item) (old new : Muteds) (tenant : List ℕ) (sets : List (List Label)) → AreMuted moment held old →
    ((t : List ℕ) → lookup (λ s. same t s) new ≡ (if same t tenant then Some sets else lookup (λ s. same t s) old)) → sets ≡ muted_at moment (held tenant) →
    AreMuted moment held new
put_right moment held old new tenant sets right put is t = by (same t tenant) refl (put t)
  where
    by : (b : Bool) → same t tenant ≡ b → lookup (λ s. same t s) new ≡ (if b then Some sets else lookup (λ s. same t s) old) →
        IfSome (lookup (λ s. same t s) new) (λ sets. sets ≡ muted_at moment (held t))
    by false other put_is = rw put_is (right t)
    by true own put_is = rw put_is (elim (same_tells t tenant) [
      | inl yours ↦ is ∙ ap (λ s. muted_at moment (held s)) (sym (yours.1))
      | inr apart ↦ absurd (conflict (sym own ∙ apart.0))
    ])
      where
        conflict : true ≡ false → ⊥
        conflict both = cc

pub put_kept : (old new : Muteds) (tenant : List ℕ) (sets : List (List Label)) →
    ((t : List ℕ) → lookup (λ s. same t s) new ≡ (if same t tenant then Some sets else lookup (λ s. same t s) old)) → (t : List ℕ) → has_muted t old ≡ true → has_muted t new ≡ true
put_kept old new tenant sets put t there = by (same t tenant) (put t)
  where
    by : (b : Bool) → lookup (λ s. same t s) new ≡ (if b then Some sets else lookup (λ s. same t s) old) → is_some (lookup (λ s. same t s) new) ≡ true
    by false is = rw is there
    by true is = rw is refl

pub put_there : (old new : Muteds) (tenant : List ℕ) (sets : List (List Label)) →
    ((t : List ℕ) → lookup (λ s. same t s) new ≡ (if same t tenant then Some sets else lookup (λ s. same t s) old)) → has_muted tenant new ≡ true
put_there old new tenant sets put = rw (put tenant, same-refl tenant) refl

-- a flush for which nothing is put has it already
pub not_needed : (flush there : Bool) → (flush && not there) ≡ false → flush ≡ true → there ≡ true
not_needed true true needless is = refl
not_needed true false needless is = cc
not_needed false there needless is = cc

pub needed_flush : (flush there : Bool) → (flush && not there) ≡ true → flush ≡ true
needed_flush true there needed = refl
needed_flush false there needed = cc

pub none_right : (moment : ℕ) (held : List ℕ → List Item) → AreMuted moment held []
none_right moment held t = tt

pub none_flush : (t : List ℕ) → some_flush t [] ≡ true → ⊥
unfolding some_flush
none_flush t some = cc

any_append : {A : Type 0} (p : A → Bool) (xs : List A) (x : A) → list_any p (xs ++ x ∷ []) ≡ (list_any p xs || p x)
any_append p [] x = or_false (p x)
  where
    or_false : (b : Bool) → (b || false) ≡ b
    or_false true = refl
    or_false false = refl
any_append p (y ∷ xs) x = rw (any_append p xs x) (or_assoc (p y) (list_any p xs) (p x))
  where
    or_assoc : (a b c : Bool) → (a || (b || c)) ≡ ((a || b) || c)
    or_assoc true b c = refl
    or_assoc false b c = refl

-- one of the timers that is a flush
pub flush_there : (t : List ℕ) (due : List Timer) (i : ℕ) (x : Timer) → i < length due → is_flush_of t (get_or due i x) ≡ true → some_flush t due ≡ true
unfolding some_flush
flush_there t [] i x within is = absurd (omega (arith, within))
flush_there t (y ∷ due) zero x within is = rw is refl
flush_there t (y ∷ due) (suc i) x within is = or_later (is_flush_of t y) _ (flush_there t due i x (omega (arith, within)) is)
  where
    or_later : (a b : Bool) → b ≡ true → (a || b) ≡ true
    or_later true b later = refl
    or_later false b later = later

-- why one timer stops it is why all do
pub stops_among : (refused : List (List ℕ)) (moment : ℕ) (due : List Timer) (i : ℕ) (x : Timer) (held : List ℕ → List Item) (fault : Fault) →
    i < length due → x ≡ get_or due i x → StopsMuting refused moment (λ t. is_flush_of t x) held fault →
    StopsMuting refused moment (λ t. some_flush t due) held fault
stops_among refused moment due i x held OutOfMemory within is stops = tt
stops_among refused moment due i x held CountsExhausted within is stops = absurd stops
stops_among refused moment due i x held StoreRefused within is stops = absurd stops
stops_among refused moment due i x held PatternNotBuilt within is (t, flush, unanswered) =
    (t, flush_there t due i x within (ap (is_flush_of t) (sym is) ∙ flush), unanswered)

-- why a tenant stops it is why its timer does
pub stops_own : (refused : List (List ℕ)) (moment : ℕ) (x : Timer) (held : List ℕ → List Item) (fault : Fault) → is_flush x.name.key ≡ true →
    StopsMuting refused moment (λ t. same t x.name.tenant) held fault → StopsMuting refused moment (λ t. is_flush_of t x) held fault
stops_own refused moment x held OutOfMemory flush stops = tt
stops_own refused moment x held CountsExhausted flush stops = absurd stops
stops_own refused moment x held StoreRefused flush stops = absurd stops
stops_own refused moment x held PatternNotBuilt flush (t, own, unanswered) = (t, rw (own, flush) refl, unanswered)

-- .. and why timers stop it is why plans do
pub stops_planned : (refused : List (List ℕ)) (moment : ℕ) (flushes others : List ℕ → Bool) (held : List ℕ → List Item) (fault : Fault) →
    ((t : List ℕ) → others t ≡ flushes t) → StopsMuting refused moment flushes held fault → StopsMuting refused moment others held fault
stops_planned refused moment flushes others held OutOfMemory same_flushes stops = tt
stops_planned refused moment flushes others held CountsExhausted same_flushes stops = absurd stops
stops_planned refused moment flushes others held StoreRefused same_flushes stops = absurd stops
stops_planned refused moment flushes others held PatternNotBuilt same_flushes (t, flush, unanswered) = (t, same_flushes t ∙ flush, unanswered)

-- one timer more
pub flush_more : (old new : Muteds) (xs : List Timer) (x : Timer) → ((t : List ℕ) → some_flush t xs ≡ true → has_muted t old ≡ true) →
    ((t : List ℕ) → has_muted t old ≡ true → has_muted t new ≡ true) → (is_flush x.name.key ≡ true → has_muted x.name.tenant new ≡ true) →
    (t : List ℕ) → some_flush t (xs ++ x ∷ []) ≡ true → has_muted t new ≡ true
unfolding some_flush
flush_more old new xs x before kept found t some =
    split (list_any (λ (y : Timer). same t y.name.tenant && is_flush y.name.key) xs) refl (sym (any_append _ xs x) ∙ some)
  where
    by_same : (b : Bool) → same t x.name.tenant ≡ b → (b && is_flush x.name.key) ≡ true → has_muted t new ≡ true
    by_same false is flush = cc
    by_same true is flush = elim (same_tells t x.name.tenant) [
      | inl own ↦ ap (λ s. has_muted s new) (own.1) ∙ found flush
      | inr apart ↦ absurd (conflict (sym is ∙ apart.0))
    ]
      where
        conflict : true ≡ false → ⊥
        conflict both = cc

    split : (b : Bool) → list_any (λ (y : Timer). same t y.name.tenant && is_flush y.name.key) xs ≡ b → (b || (same t x.name.tenant && is_flush x.name.key)) ≡ true → has_muted t new ≡ true
    split true is any = kept t (before t is)
    split false is any = by_same (same t x.name.tenant) refl any
