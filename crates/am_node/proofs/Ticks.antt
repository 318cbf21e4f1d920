-- The timers of all tenants, tenant by tenant.
use Rattle.std.proofs.Common.{◌≡◌, ◌∙◌, ℕ, Bool, true, false, ◌&&◌, ◌||◌, List, [], ◌∷◌, ◌++◌, map, filter, refl, sym}
use Rattle.std.proofs.Common.{ap, subst, inl, inr, if◌then◌else◌}
use Rattle.std.specs.List.{list_any}
use Rattle.std.proofs.lemmas.List.{append_assoc, append-nil, map-append}
use Rattle.std.proofs.lemmas.List.Elements.{filter-append}
use Rattle.am_labels.specs.declared.Label.{Label}
use Rattle.am_tenant.specs.Names.{same}
use Rattle.am_tenant.proofs.Same.{same_tells, same-refl}
use Rattle.am_timer.specs.Timer.{Key, Timer}
use Rattle.am_timer.specs.declared.key.TimerKey.TheVariants.{Operation, Group, Retry, Push}
use Rattle.am_node.specs.declared.dispatch.Dispatch.{Dispatch}
use Rattle.am_node.specs.declared.report.Report.{Report}
use Rattle.am_context.specs.declared.context.Context.{Context}
use Rattle.am_node.specs.Local.{Local, Reaction, Said, each, in_turn, said_in}
use Rattle.am_book.specs.Retired.{is_key_retired}
use Rattle.am_current.specs.Current.{configuration_in}
use Rattle.am_item.specs.Key.{SilenceKey}
use Rattle.am_item.specs.declared.fault.Fault.{Fault}
use Rattle.am_item.specs.declared.fault.Fault.TheVariants.{OutOfMemory, CountsExhausted, PatternNotBuilt, StoreRefused}
use Rattle.am_muting.specs.Failing.{HasUnanswered, patterns_muting}
use Rattle.am_node.specs.Held.{StopsFor}
use Rattle.am_node.specs.Retiring.{retired}
use Rattle.am_node.specs.Ticking.{done_by, due_keys, handled, muted_of, ticked}
use Rattle.am_node.specs.Ticks.{AreHandled, DoesDue, IsDone, StopsTicking, StopsDoing, StopsHandling, TicksAll}
use Rattle.am_node.specs.Ticks.{done_for, has_flush, is_flush, keys_for, muted_for, said_of, some_flush}
use Rattle.am_replica.specs.Retiring.{StopsRetiring}
use Rattle.am_node.specs.Plans.{IsPlanned}
use Rattle.am_node.proofs.Kept.{each_keeps, handled_keeps, ticked_keeps}
use Rattle.am_node.proofs.Sequence.{each_more, past_among}

abbrev pub Muteds : Type 0
Muteds = List (List ℕ × List (List Label))

-- ---- keys

pub keys_append : (t : List ℕ) (xs ys : List Timer) → keys_for t (xs ++ ys) ≡ keys_for t xs ++ keys_for t ys
unfolding keys_for
keys_append t xs ys = rw (filter-append (λ (x : Timer). same t x.name.tenant) xs ys) (map-append _ (filter (λ (x : Timer). same t x.name.tenant) xs) _)

pub keys_own : (t : List ℕ) (x : Timer) (xs : List Timer) → same t x.name.tenant ≡ true → keys_for t (x ∷ xs) ≡ x.name.key ∷ keys_for t xs
unfolding keys_for
keys_own t x xs own = rw own refl

pub keys_other : (t : List ℕ) (x : Timer) (xs : List Timer) → same t x.name.tenant ≡ false → keys_for t (x ∷ xs) ≡ keys_for t xs
unfolding keys_for
keys_other t x xs other = rw other refl

pub keys_none : (t : List ℕ) → keys_for t [] ≡ []
unfolding keys_for
keys_none t = refl

-- ---- one more timer

pub done_own : (context : List ℕ → Context) (muted : Muteds) (t : List ℕ) (xs : List Timer) (x : Timer) (l : Local) → same t x.name.tenant ≡ true →
    done_for context muted t (xs ++ x ∷ []) l ≡ in_turn (done_for context muted t xs l) (handled (context t) (muted_for t muted) x.name.key)
unfolding done_for
done_own context muted t xs x l own =
    rw (keys_append t xs (x ∷ []), keys_own t x [] own, keys_none t) (each_more (handled (context t) (muted_for t muted)) (keys_for t xs) x.name.key l)

pub done_other : (context : List ℕ → Context) (muted : Muteds) (t : List ℕ) (xs : List Timer) (x : Timer) (l : Local) → same t x.name.tenant ≡ false →
    done_for context muted t (xs ++ x ∷ []) l ≡ done_for context muted t xs l
unfolding done_for
done_other context muted t xs x l other =
    rw (keys_append t xs (x ∷ []), keys_other t x [] other, keys_none t, append-nil (keys_for t xs)) refl

pub none_done : (context : List ℕ → Context) (muted : Muteds) (t : List ℕ) (l : Local) → IsDone (done_for context muted t [] l) l []
unfolding done_for
none_done context muted t l = rw (keys_none t) (record { local = refl; said = refl; fits = refl })

-- what a timer of one tenant makes of what all have, and of what is said
abbrev pub IsNext : (context : List ℕ → Context) (muted : Muteds) (x : Timer) (mid new : List ℕ → Local) (before after : List ℕ → List Said) → Type 0
IsNext context muted x mid new before after =
    let react = handled (context x.name.tenant) (muted_for x.name.tenant muted) x.name.key in
    ((t : List ℕ) → new t ≡ (if same t x.name.tenant then (react (mid t)).local else mid t))
    × ((t : List ℕ) → after t ≡ before t ++ (if same t x.name.tenant then (react (mid x.name.tenant)).said else []))
    × ((react (mid x.name.tenant)).fits ≡ true)

in_turn_done : (first : Reaction) (next : Local → Reaction) (mid new : Local) (before after : List Said) → IsDone first mid before →
    new ≡ (next mid).local → after ≡ before ++ (next mid).said → (next mid).fits ≡ true → IsDone (in_turn first next) new after
in_turn_done first next mid new before after done local said fits =
    let same_fits : (next first.local).fits ≡ true = rw (done.local) at fits in
    record {
      local = local ∙ ap (λ l. (next l).local) done.local;
      said = said ∙ rw (done.said, done.local) refl;
      fits = rw (done.fits, same_fits) refl;
    }

pub next_done : (context : List ℕ → Context) (muted : Muteds) (xs : List Timer) (x : Timer) (old mid new : List ℕ → Local) (before after : List ℕ → List Said) →
    ((t : List ℕ) → IsDone (done_for context muted t xs (old t)) (mid t) (before t)) → IsNext context muted x mid new before after →
    (t : List ℕ) → IsDone (done_for context muted t (xs ++ x ∷ []) (old t)) (new t) (after t)
next_done context muted xs x old mid new before after done next t = elim (same_tells t x.name.tenant) [
  | inl is ↦ own t (is.0) (is.1)
  | inr apart ↦ rw (done_other context muted t xs x (old t) (apart.0)) (record {
    local = (next.0 t ∙ rw (apart.0) refl) ∙ (done t).local;
    said = (next.1 t ∙ rw (apart.0) (append-nil (before t))) ∙ (done t).said;
    fits = (done t).fits;
  })
]
  where
    own : (t : List ℕ) → same t x.name.tenant ≡ true → t ≡ x.name.tenant → IsDone (done_for context muted t (xs ++ x ∷ []) (old t)) (new t) (after t)
    own t yours is = rw (done_own context muted t xs x (old t) yours)
        (in_turn_done (done_for context muted t xs (old t)) (handled (context t) (muted_for t muted) x.name.key) (mid t) (new t) (before t) (after t) (done t)
        (next.0 t ∙ rw yours (ap (λ s. (handled (context s) (muted_for s muted) x.name.key (mid t)).local) (sym is)))
        (next.1 t ∙ rw yours (ap (λ s. before t ++ (handled (context s) (muted_for s muted) x.name.key (mid s)).said) (sym is)))
        (ap (λ s. (handled (context s) (muted_for s muted) x.name.key (mid s)).fits) is ∙ next.2))

-- what is planned goes by what is held all the way
pub done_keeps : (context : List ℕ → Context) (muted : Muteds) (t : List ℕ) (xs : List Timer) (l : Local) → IsPlanned l → IsPlanned (done_for context muted t xs l).local
unfolding done_for
done_keeps context muted t xs l planned =
    each_keeps IsPlanned (handled (context t) (muted_for t muted)) (λ key one. handled_keeps (context t) (muted_for t muted) key one) (keys_for t xs) l planned

-- a count that passes the greatest at one timer does so at all
pub past_done : (context : List ℕ → Context) (muted : Muteds) (t : List ℕ) (xs : List Timer) (x : Timer) (ys : List Timer) (old : Local) → same t x.name.tenant ≡ true →
    (handled (context t) (muted_for t muted) x.name.key (done_for context muted t xs old).local).fits ≡ false → (done_for context muted t (xs ++ x ∷ ys) old).fits ≡ false
unfolding done_for
past_done context muted t xs x ys old own past =
    rw (keys_append t xs (x ∷ ys), keys_own t x ys own) (past_among (handled (context t) (muted_for t muted)) (keys_for t xs) x.name.key (keys_for t ys) old past)

-- ---- what is said

pub said_append : (t : List ℕ) (xs ys : List Dispatch) → said_of t (xs ++ ys) ≡ said_of t xs ++ said_of t ys
unfolding said_of
said_append t xs ys = rw (filter-append (λ (d : Dispatch). same t d.tenant) xs ys) (map-append _ (filter (λ (d : Dispatch). same t d.tenant) xs) _)

pub said_none : (t : List ℕ) → said_of t [] ≡ []
unfolding said_of
said_none t = refl

pub said_one : (t : List ℕ) (d : Dispatch) → said_of t (d ∷ []) ≡ (if same t d.tenant then said_in d.report ∷ [] else [])
unfolding said_of
said_one t d = by (same t d.tenant) refl
  where
    by : (b : Bool) → same t d.tenant ≡ b → map (λ (e : Dispatch). said_in e.report) (filter (λ (e : Dispatch). same t e.tenant) (d ∷ [])) ≡ (if same t d.tenant then said_in d.report ∷ [] else [])
    by true is = rw is refl
    by false is = rw is refl

pub said_more : (t s : List ℕ) (items : List Dispatch) (reports : List Report) (x : Report) (base : List Said) →
    said_of t items ≡ base ++ (if same t s then map said_in reports else []) →
    said_of t (items ++ record { tenant = s; report = x } ∷ []) ≡ base ++ (if same t s then map said_in (reports ++ x ∷ []) else [])
said_more t s items reports x base is = by (same t s) refl
  where
    told : List Report → List Said
    told ys = map said_in ys

    one : List Said
    one = said_in x ∷ []

    added : (b : Bool) → same t s ≡ b → said_of t (items ++ record { tenant = s; report = x } ∷ []) ≡ (base ++ (if b then told reports else [])) ++ (if b then one else [])
    added b b_is = said_append t items (record { tenant = s; report = x } ∷ []) ∙ rw (said_one t (record { tenant = s; report = x }), is, b_is) refl

    by : (b : Bool) → same t s ≡ b → said_of t (items ++ record { tenant = s; report = x } ∷ []) ≡ base ++ (if b then told (reports ++ x ∷ []) else [])
    by true b_is = added true b_is ∙ append_assoc base (told reports) one ∙ ap (λ ys. base ++ ys) (sym (map-append said_in reports (x ∷ [])))
    by false b_is = added false b_is ∙ append-nil (base ++ [])

-- ---- what is muted

-- what isn't a flush doesn't go by what is muted
pub no_flush : (context : Context) (muted blank : List (List Label)) (keys : List Key) (l : Local) → list_any is_flush keys ≡ false →
    each (handled context muted) keys l ≡ each (handled context blank) keys l
unfolding handled
no_flush context muted blank [] l none = refl
no_flush context muted blank (k ∷ keys) l none =
    rw (same_here k l (or_first (is_flush k) (list_any is_flush keys) none), no_flush context muted blank keys (handled context blank k l).local (or_second (is_flush k) (list_any is_flush keys) none)) refl
  where
    or_first : (a b : Bool) → (a || b) ≡ false → a ≡ false
    or_first false b neither = refl
    or_first true b neither = cc

    or_second : (a b : Bool) → (a || b) ≡ false → b ≡ false
    or_second false b neither = neither
    or_second true b neither = cc

    same_here : (k : Key) (l : Local) → is_flush k ≡ false → handled context muted k l ≡ handled context blank k l
    same_here (Operation number) l other = refl
    same_here (Group key) l other = cc
    same_here (Retry number) l other = refl
    same_here (Push instance) l other = refl

pub flush_among : (t : List ℕ) (due : List Timer) → some_flush t due ≡ list_any is_flush (keys_for t due)
unfolding some_flush keys_for
flush_among t [] = refl
flush_among t (x ∷ due) = by (flush_among t due) (same t x.name.tenant) refl
  where
    by : list_any (λ (y : Timer). same t y.name.tenant && is_flush y.name.key) due ≡ list_any is_flush (map (λ (y : Timer). y.name.key) (filter (λ (y : Timer). same t y.name.tenant) due)) → (b : Bool) → same t x.name.tenant ≡ b → list_any (λ (y : Timer). same t y.name.tenant && is_flush y.name.key) (x ∷ due) ≡ list_any is_flush (map (λ (y : Timer). y.name.key) (filter (λ (y : Timer). same t y.name.tenant) (x ∷ due)))
    by later true is = rw is (ap (λ b. is_flush x.name.key || b) later)
    by later false is = rw is later

-- ---- all timers

-- what is done for all timers that are due is what is done for the tenant's own
pub done_due : (context : List ℕ → Context) (muted : Muteds) (t : List ℕ) (due : List Timer) (l : Local) → keys_for t due ≡ due_keys t (context t).moment l.plan →
    (some_flush t due ≡ true → muted_for t muted ≡ muted_of (context t) l) → done_for context muted t due l ≡ done_by t (context t) l
unfolding done_for
done_due context muted t due l keys known = ap (λ ks. each (handled (context t) (muted_for t muted)) ks l) keys ∙ by (some_flush t due) refl
  where
    ks : List Key
    ks = due_keys t (context t).moment l.plan

    by : (b : Bool) → some_flush t due ≡ b → each (handled (context t) (muted_for t muted)) ks l ≡ each (handled (context t) (muted_of (context t) l)) ks l
    by true flush = ap (λ m. each (handled (context t) m) ks l) (known flush)
    by false none = no_flush (context t) (muted_for t muted) (muted_of (context t) l) ks l (ap (λ k. list_any is_flush k) (sym keys) ∙ sym (flush_among t due) ∙ none)

pub all_due : (context : List ℕ → Context) (muted : Muteds) (due : List Timer) (old mid new : List ℕ → Local) (all : List Dispatch) → ((t : List ℕ) → mid t ≡ old t) →
    ((t : List ℕ) → keys_for t due ≡ due_keys t (context t).moment (old t).plan) → ((t : List ℕ) → some_flush t due ≡ true → muted_for t muted ≡ muted_of (context t) (old t)) →
    AreHandled context muted due mid new all → DoesDue context old new all
all_due context muted due old mid new all same keys known handled_all t =
    subst (λ r. IsDone r (new t) (said_of t all)) (ap (λ l. done_for context muted t due l) (same t) ∙ done_due context muted t due (old t) (keys t) (known t)) (handled_all t)

pub stops_due : (context : List ℕ → Context) (muted : Muteds) (due : List Timer) (old mid : List ℕ → Local) (refused : List (List ℕ)) → ((t : List ℕ) → mid t ≡ old t) →
    ((t : List ℕ) → keys_for t due ≡ due_keys t (context t).moment (old t).plan) → ((t : List ℕ) → some_flush t due ≡ true → muted_for t muted ≡ muted_of (context t) (old t)) →
    (fault : Fault) → StopsHandling context muted due mid fault → StopsDoing context old refused fault
stops_due context muted due old mid refused same keys known OutOfMemory stops = tt
stops_due context muted due old mid refused same keys known CountsExhausted (t, past) =
    (t, ap (λ r. r.fits) (sym (ap (λ l. done_for context muted t due l) (same t) ∙ done_due context muted t due (old t) (keys t) (known t))) ∙ past)
stops_due context muted due old mid refused same keys known PatternNotBuilt stops = absurd stops
stops_due context muted due old mid refused same keys known StoreRefused stops = absurd stops

-- one of them stops it
pub stops_one : (context : List ℕ → Context) (muted : Muteds) (xs : List Timer) (x : Timer) (ys : List Timer) (old : List ℕ → Local) (mid : Local) →
    mid ≡ (done_for context muted x.name.tenant xs (old x.name.tenant)).local → (fault : Fault) →
    StopsFor (handled (context x.name.tenant) (muted_for x.name.tenant muted) x.name.key mid) fault → StopsHandling context muted (xs ++ x ∷ ys) old fault
stops_one context muted xs x ys old mid at OutOfMemory stops = tt
stops_one context muted xs x ys old mid at CountsExhausted past = (
  x.name.tenant,
  past_done context muted x.name.tenant xs x ys (old x.name.tenant) (same-refl x.name.tenant)
      (ap (λ l. (handled (context x.name.tenant) (muted_for x.name.tenant muted) x.name.key l).fits) (sym at) ∙ past),
)
stops_one context muted xs x ys old mid at PatternNotBuilt stops = absurd stops
stops_one context muted xs x ys old mid at StoreRefused stops = absurd stops

-- ---- the tick

pub all_tick : (context : List ℕ → Context) (old mid new : List ℕ → Local) (all : List Dispatch) → ((t : List ℕ) → mid t ≡ retired (context t).moment (old t)) →
    DoesDue context mid new all → TicksAll context old new all
unfolding ticked
all_tick context old mid new all left due t =
    let done : IsDone (done_by t (context t) (retired (context t).moment (old t))) (new t) (said_of t all) = subst (λ l. IsDone (done_by t (context t) l) (new t) (said_of t all)) (left t) (due t) in
    record { local = done.local; said = done.said; fits = done.fits }

pub stops_tick : (context : List ℕ → Context) (old mid : List ℕ → Local) (refused : List (List ℕ)) → ((t : List ℕ) → mid t ≡ retired (context t).moment (old t)) → (fault : Fault) →
    StopsDoing context mid refused fault → StopsTicking context old refused fault
unfolding ticked
stops_tick context old mid refused left OutOfMemory stops = tt
stops_tick context old mid refused left CountsExhausted (t, past) = (t, ap (λ l. (done_by t (context t) l).fits) (sym (left t)) ∙ past)
stops_tick context old mid refused left PatternNotBuilt (t, flush, unanswered) = (
  t,
  subst (λ (l : Local). has_flush t (context t).moment l.plan ≡ true) (left t) flush,
  subst (λ (l : Local). HasUnanswered refused (patterns_muting (configuration_in l.held) (context t).moment l.held)) (left t) unanswered,
)
stops_tick context old mid refused left StoreRefused stops = absurd stops

-- what stops where what is retired goes stops a tick
pub stops_retiring : (context : List ℕ → Context) (moment : ℕ) (old : List ℕ → Local) (refused : List (List ℕ)) → ((t : List ℕ) → (context t).moment ≡ moment) → (fault : Fault) →
    StopsRetiring moment (λ t. (old t).held) fault → StopsTicking context old refused fault
stops_retiring context moment old refused now OutOfMemory stops = tt
stops_retiring context moment old refused now CountsExhausted stops = absurd stops
stops_retiring context moment old refused now PatternNotBuilt stops = absurd stops
stops_retiring context moment old refused now StoreRefused (t, id, retires) = (t, id, ap (λ m. is_key_retired m (old t).held (SilenceKey id)) (now t) ∙ retires)

-- where each is ticked, what is planned goes by what is held
pub all_keep : (context : List ℕ → Context) (old new : List ℕ → Local) (all : List Dispatch) → TicksAll context old new all → ((t : List ℕ) → IsPlanned (old t)) → (t : List ℕ) → IsPlanned (new t)
all_keep context old new all ticks planned t = subst IsPlanned (sym (ticks t).local) (ticked_keeps t (context t) (old t) (planned t))
