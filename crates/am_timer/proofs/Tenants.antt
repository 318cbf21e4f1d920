-- What each tenant has of a queue: the same as in a queue that it alone uses.
use Rattle.std.proofs.Common.{◌≡◌, ◌⊎◌, inl, inr, ℕ, Bool, true, false, ◌&&◌, ◌||◌, not, List, [], ◌∷◌, refl, sym, ap, ◌∙◌, if◌then◌else◌}
use Rattle.std.specs.BTreeSet.{insert_key}
use Rattle.std.specs.List.{filter}
use Rattle.std.specs.List.Sorted.{IsStrictlySortedBy}
use Rattle.std.specs.Ordering.{is_eq}
use Rattle.am_share.specs.Pairs.{LeavesOthers, things_of}
use Rattle.am_tenant.specs.Names.{same}
use Rattle.am_timer.specs.Timer.{Name, Timer, timer_cmp}
use Rattle.am_timer.specs.Queue.{is_named, pairs_of, timers_of, with_timer, without}
use Rattle.am_timer.specs.Tied.{has_timer}
use Rattle.am_timer.proofs.Orders.{same_name, same_timer}
use Rattle.am_timer.proofs.TiedLemmas.{has-filter, has-insert, rising-filter, rising-insert, same_timers}

-- two filters, in either order
filter-swap : {X : Type 0} (p q : X → Bool) (xs : List X) → filter p (filter q xs) ≡ filter q (filter p xs)
filter-swap p q [] = refl
filter-swap p q (x ∷ xs) = by_cases (p x) (q x) refl refl (filter-swap p q xs)
  where
    by_cases : (a b : Bool) → p x ≡ a → q x ≡ b → filter p (filter q xs) ≡ filter q (filter p xs) → filter p (filter q (x ∷ xs)) ≡ filter q (filter p (x ∷ xs))
    by_cases true true e f rest = rw (e, f) (rw e (ap (λ ys. x ∷ ys) rest))
    by_cases true false e f rest = rw (e, f) rest
    by_cases false true e f rest = rw (e, f) (rw e rest)
    by_cases false false e f rest = rw (e, f) rest

-- the things of a tenant are its timers
pub things_are : (t : List ℕ) (xs : List Timer) → things_of t (pairs_of xs) ≡ timers_of t xs
unfolding things_of timers_of
things_are t [] = refl
things_are t (x ∷ xs) = by_cases (same t x.name.tenant) refl (things_are t xs)
  where
    by_cases : (b : Bool) → same t x.name.tenant ≡ b → things_of t (pairs_of xs) ≡ timers_of t xs → things_of t (pairs_of (x ∷ xs)) ≡ timers_of t (x ∷ xs)
    by_cases true e rest = rw e (ap (λ ys. x ∷ ys) rest)
    by_cases false e rest = rw e rest

-- where each tenant but one has the timers that it had, the others' lists stay
pub leaves : (tenant : List ℕ) (old new : List Timer) → ((t : List ℕ) → same t tenant ≡ false → timers_of t new ≡ timers_of t old) → LeavesOthers tenant (pairs_of old) (pairs_of new)
leaves tenant old new h t other = things_are t new ∙ h t other ∙ sym (things_are t old)

-- a filter by something else
pub timers_of-filter : (t : List ℕ) (p : Timer → Bool) (xs : List Timer) → timers_of t (filter p xs) ≡ filter p (timers_of t xs)
unfolding timers_of
timers_of-filter t p xs = filter-swap (λ x. same t x.name.tenant) p xs

-- what a queue of one's own has where another's timer goes
not_named : (t : List ℕ) (name : Name) (x : Timer) → same t name.tenant ≡ false → same t x.name.tenant ≡ true → is_named name x ≡ false
not_named t name x other own = by_cases (is_named name x) refl
  where
    by_cases : (b : Bool) → is_named name x ≡ b → b ≡ false
    by_cases true e = sym own ∙ ap (λ (n : Name). same t n.tenant) (sym (same_name name x.name e)) ∙ other
    by_cases false e = refl

all_stay : (t : List ℕ) (name : Name) (xs : List Timer) → same t name.tenant ≡ false → without name (timers_of t xs) ≡ timers_of t xs
unfolding timers_of
all_stay t name [] other = refl
all_stay t name (x ∷ xs) other = by_cases (same t x.name.tenant) refl (all_stay t name xs other)
  where
    by_cases : (b : Bool) → same t x.name.tenant ≡ b → without name (timers_of t xs) ≡ timers_of t xs → without name (timers_of t (x ∷ xs)) ≡ timers_of t (x ∷ xs)
    by_cases true e rest = rw e (rw (not_named t name x other e) (ap (λ ys. x ∷ ys) rest))
    by_cases false e rest = rw e rest

-- after a timer went: each tenant has what it would have in a queue of its own
pub each_without : (name : Name) (xs : List Timer) (t : List ℕ) → timers_of t (without name xs) ≡ (if same t name.tenant then without name (timers_of t xs) else timers_of t xs)
each_without name xs t = timers_of-filter t (λ x. not (is_named name x)) xs ∙ by_cases (same t name.tenant) refl
  where
    by_cases : (b : Bool) → same t name.tenant ≡ b → without name (timers_of t xs) ≡ (if b then without name (timers_of t xs) else timers_of t xs)
    by_cases true e = refl
    by_cases false e = all_stay t name xs e

-- a tenant's timers are in order
rising-timers_of : (t : List ℕ) (xs : List Timer) → IsStrictlySortedBy timer_cmp xs → IsStrictlySortedBy timer_cmp (timers_of t xs)
unfolding timers_of
rising-timers_of t xs rising = rising-filter (λ x. same t x.name.tenant) xs rising

has-timers_of : (t : List ℕ) (xs : List Timer) (q : Timer) → has_timer (timers_of t xs) q ≡ (same t q.name.tenant && has_timer xs q)
unfolding timers_of
has-timers_of t xs q = has-filter (λ x. same t x.name.tenant) xs q

-- a timer that is put in stands among its tenant's, and not among another's
placed_own : (t : List ℕ) (x : Timer) (xs : List Timer) → IsStrictlySortedBy timer_cmp xs → same t x.name.tenant ≡ true → timers_of t (insert_key timer_cmp xs x) ≡ insert_key timer_cmp (timers_of t xs) x
placed_own t x xs rising own =
    same_timers _ _ (rising-timers_of t _ (rising-insert xs x rising)) (rising-insert _ x (rising-timers_of t xs rising))
    (λ q. has-timers_of t (insert_key timer_cmp xs x) q ∙ ap (λ b. same t q.name.tenant && b) (has-insert xs x q) ∙ among q (is_eq (timer_cmp q x)) refl
    ∙ ap (λ b. is_eq (timer_cmp q x) || b) (sym (has-timers_of t xs q)) ∙ sym (has-insert (timers_of t xs) x q))
  where
    among : (q : Timer) (b : Bool) → is_eq (timer_cmp q x) ≡ b → (same t q.name.tenant && (b || has_timer xs q)) ≡ (b || (same t q.name.tenant && has_timer xs q))
    among q true e = rw (ap (λ (y : Timer). same t y.name.tenant) (same_timer q x e) ∙ own) refl
    among q false e = refl

placed_other : (t : List ℕ) (x : Timer) (xs : List Timer) → IsStrictlySortedBy timer_cmp xs → same t x.name.tenant ≡ false → timers_of t (insert_key timer_cmp xs x) ≡ timers_of t xs
placed_other t x xs rising other =
    same_timers _ _ (rising-timers_of t _ (rising-insert xs x rising)) (rising-timers_of t xs rising)
    (λ q. has-timers_of t (insert_key timer_cmp xs x) q ∙ ap (λ b. same t q.name.tenant && b) (has-insert xs x q) ∙ among q (is_eq (timer_cmp q x)) refl
    ∙ sym (has-timers_of t xs q))
  where
    among : (q : Timer) (b : Bool) → is_eq (timer_cmp q x) ≡ b → (same t q.name.tenant && (b || has_timer xs q)) ≡ (same t q.name.tenant && has_timer xs q)
    among q true e = rw (ap (λ (y : Timer). same t y.name.tenant) (same_timer q x e) ∙ other) refl
    among q false e = refl

-- after a timer was set: each tenant has what it would have in a queue of its own
pub each_with : (x : Timer) (xs : List Timer) → IsStrictlySortedBy timer_cmp xs → (t : List ℕ) → timers_of t (with_timer x xs) ≡ (if same t x.name.tenant then with_timer x (timers_of t xs) else timers_of t xs)
each_with x xs rising t = by_cases (same t x.name.tenant) refl
  where
    left : IsStrictlySortedBy timer_cmp (without x.name xs)
    left = rising-filter (λ y. not (is_named x.name y)) xs rising

    by_cases : (b : Bool) → same t x.name.tenant ≡ b → timers_of t (with_timer x xs) ≡ (if b then with_timer x (timers_of t xs) else timers_of t xs)
    by_cases true e = placed_own t x (without x.name xs) left e ∙ ap (λ ys. insert_key timer_cmp ys x) (timers_of-filter t (λ y. not (is_named x.name y)) xs)
    by_cases false e = placed_other t x (without x.name xs) left e ∙ timers_of-filter t (λ y. not (is_named x.name y)) xs ∙ all_stay t x.name xs e

-- where each has what it would have in a queue of its own, the others' lists stay
pub others_stay : (tenant : List ℕ) (own : List Timer → List Timer) (old new : List Timer) → ((t : List ℕ) → timers_of t new ≡ (if same t tenant then own (timers_of t old) else timers_of t old)) → LeavesOthers tenant (pairs_of old) (pairs_of new)
others_stay tenant own old new each =
    leaves tenant old new (λ t other. each t ∙ ap (λ b. if b then own (timers_of t old) else timers_of t old) other)

-- also where the timer of a name went or stayed
pub others_stay_either : (name : Name) (old new : List Timer) → (new ≡ old) ⊎ (new ≡ without name old) → LeavesOthers name.tenant (pairs_of old) (pairs_of new)
others_stay_either name old new (inl e) = leaves name.tenant old new (λ t other. ap (timers_of t) e)
others_stay_either name old new (inr e) = others_stay name.tenant (without name) old new (λ t. ap (timers_of t) e ∙ each_without name old t)
