-- The rows of a store go by what is held.
use Rattle.std.proofs.Common.{◌≡◌, ℕ, Bool, true, false, List, [], Option, Some, None, IfErr, Result, Ok, Err, refl}
use Rattle.std.proofs.Common.{sym, ap, ◌∙◌, if◌then◌else◌}
use Rattle.am_tenant.specs.Names.{same}
use Rattle.am_item.specs.Best.{IsRising, all_joined}
use Rattle.am_item.specs.declared.fault.Fault.{Fault}
use Rattle.am_item.specs.declared.fault.Fault.TheVariants.{OutOfMemory, CountsExhausted, PatternNotBuilt, StoreRefused}
use Rattle.am_item.specs.declared.item.Item.{Item}
use Rattle.am_rows.specs.Rows.{Keeps, Makes as MakesRows, has_stored, put_rows, rows_of, stored_in}
use Rattle.am_rows.proofs.Following.{put_follows, rows_rise, rows_stored}
use Rattle.am_node.specs.Accepting.{StopsAccepting, StopsCommitting, accepted, accepted_for}
use Rattle.am_node.specs.declared.parts.Parts.{Parts}
use Rattle.am_context.specs.declared.context.Context.{Context}
use Rattle.am_labels.specs.declared.Label.{Label}
use Rattle.am_timer.specs.Timer.{Key}
use Rattle.am_node.specs.Delivery.{outcome}
use Rattle.am_node.specs.Held.{Does, Makes, local_of}
use Rattle.am_node.proofs.StoredTicks.{Rest, handled_rests, outcome_rests}
use Rattle.am_node.specs.Local.{Local, Reaction, blank}
use Rattle.am_node.specs.Ticking.{handled}
use Rattle.am_item.proofs.BestLaws.{best-rising}
use Rattle.am_item.proofs.Joining.{all_joined-merged}
use Rattle.std.specs.List.Sorted.{IsStrictlySortedBy}
use Rattle.am_node.specs.Plans.{IsPlanned}
use Rattle.am_node.specs.Storing.{AreRowsOf, AreStored}
use Rattle.am_replica.specs.Storing.{StopsStoring, fault_in}
use Rattle.am_node.specs.Ticks.{StopsDoing}

abbrev Pairs : Type 0
Pairs = List (List ℕ × Item)

held_accepted : (moment : ℕ) (items : List Item) (local : Local) → (accepted moment items local).held ≡ all_joined local.held items
unfolding accepted
held_accepted moment items local = refl

-- what is accepted is committed
pub rows_kept : (tenant : List ℕ) (moment : ℕ) (items : List Item) (old : Parts) (before after : Pairs)
    → ((t : List ℕ) → IsPlanned (local_of t old)) → AreStored old before → MakesRows tenant (put_rows items) before after
    → AreRowsOf (λ t. accepted_for tenant moment items t (local_of t old)) after
rows_kept tenant moment items old before after planned stored put t = by (same t tenant) (put t)
  where
    by : (b : Bool) → rows_of t after ≡ (if b then put_rows items (rows_of t before) else rows_of t before)
        → rows_of t after ≡ stored_in (if b then accepted moment items (local_of t old) else local_of t old).held
    by true rows =
        rows ∙ ap (put_rows items) (stored t) ∙ put_follows (local_of t old).held items (planned t).rising
        ∙ sym (ap stored_in (held_accepted moment items (local_of t old)))
    by false rows = rows ∙ stored t

pub stores_kept : (tenant : List ℕ) (moment : ℕ) (items : List Item) (old new : Parts) (before after : Pairs)
    → ((t : List ℕ) → IsPlanned (local_of t old)) → AreStored old before → MakesRows tenant (put_rows items) before after
    → Makes tenant (accepted moment items) old new → AreStored new after
stores_kept tenant moment items old new before after planned stored put makes t =
    rows_kept tenant moment items old before after planned stored put t ∙ sym (ap (λ (l : Local). stored_in l.held) (makes t))

-- rows that stay are still those of what is held
pub still_rows : (locals : List ℕ → Local) (before after : Pairs) → AreRowsOf locals before → Keeps before after → AreRowsOf locals after
still_rows locals before after stored keeps t = keeps t ∙ stored t

pub stops_putting : (refused : List (List ℕ)) (items : List Item) (local : Local) (fault : Fault) → StopsStoring (has_stored items) fault → StopsCommitting refused items local fault
stops_putting refused items local OutOfMemory stops = tt
stops_putting refused items local CountsExhausted stops = absurd stops
stops_putting refused items local PatternNotBuilt stops = absurd stops
stops_putting refused items local StoreRefused stops = stops

pub stops_keeping : (refused : List (List ℕ)) (items : List Item) (local : Local) (fault : Fault) → StopsAccepting refused items local fault → StopsCommitting refused items local fault
stops_keeping refused items local OutOfMemory stops = tt
stops_keeping refused items local CountsExhausted stops = absurd stops
stops_keeping refused items local PatternNotBuilt stops = stops
stops_keeping refused items local StoreRefused stops = absurd stops

-- a reaction that leaves what is stored of its tenant leaves what is stored of all
pub stores_did : (tenant : List ℕ) (react : Local → Reaction) (old new : Parts) → ((t : List ℕ) → IsPlanned (local_of t old))
    → ((xs : List Item) (l : Local) → Rest xs l.held → Rest xs (react l).local.held)
    → Does tenant react old new → (t : List ℕ) → stored_in (local_of t new).held ≡ stored_in (local_of t old).held
stores_did tenant react old new planned rests does t = by (same t tenant) (does t)
  where
    by : (b : Bool) → local_of t new ≡ (if b then (react (local_of t old)).local else local_of t old)
        → stored_in (local_of t new).held ≡ stored_in (local_of t old).held
    by true is = ap (λ (l : Local). stored_in l.held) is ∙ (rests (stored_in (local_of t old).held) (local_of t old) (record { rising = (planned t).rising; rows = refl })).rows
    by false is = ap (λ (l : Local). stored_in l.held) is

-- what an outcome makes of it leaves what is stored
pub stores_outcome : (tenant : List ℕ) (context : Context) (number tries : ℕ) (status : Option ℕ) (old new : Parts) → ((t : List ℕ) → IsPlanned (local_of t old))
    → Does tenant (outcome context number tries status) old new → (t : List ℕ) → stored_in (local_of t new).held ≡ stored_in (local_of t old).held
stores_outcome tenant context number tries status old new planned does =
    stores_did tenant (outcome context number tries status) old new planned (λ xs l rest. outcome_rests xs context number tries status l rest) does

-- .. and so does what is done for a timer
pub stores_handled : (tenant : List ℕ) (context : Context) (muted : List (List Label)) (key : Key) (old new : Parts) → ((t : List ℕ) → IsPlanned (local_of t old))
    → Does tenant (handled context muted key) old new → (t : List ℕ) → stored_in (local_of t new).held ≡ stored_in (local_of t old).held
stores_handled tenant context muted key old new planned does =
    stores_did tenant (handled context muted key) old new planned (λ xs l rest. handled_rests xs context muted key l rest) does

nothing_rises : IsRising []
unfolding IsStrictlySortedBy
nothing_rises = tt

rows_whole : (t : List ℕ) (pairs : Pairs) → stored_in (all_joined [] (rows_of t pairs)) ≡ rows_of t pairs
rows_whole t pairs =
    ap stored_in (all_joined-merged [] (rows_of t pairs) nothing_rises ∙ best-rising (rows_of t pairs) (rows_rise t pairs)) ∙ rows_stored t pairs

-- what is held of what was stored is what is stored
pub stores_held : (moment : ℕ) (new : Parts) (before after : Pairs) → Keeps before after → ((t : List ℕ) → local_of t new ≡ accepted moment (rows_of t before) blank) → AreStored new after
stores_held moment new before after keeps held t =
    keeps t ∙ sym (ap (λ (l : Local). stored_in l.held) (held t) ∙ ap stored_in (held_accepted moment (rows_of t before) blank) ∙ rows_whole t before)

-- ---- only a store refuses

pub none_refused : {P : Type 0} {fault : Fault} → None ≡ Some fault → P
none_refused is = let clash = is in cc

pub memory_refused : {P : Type 0} → Some OutOfMemory ≡ Some StoreRefused → P
memory_refused is = let clash = is in cc

pub never_accepting : {X : Type 0} (r : Result X Fault) (refused : List (List ℕ)) (items : List Item) (local : Local) → IfErr r (StopsAccepting refused items local)
    → fault_in r ≡ Some StoreRefused → ⊥
never_accepting (Ok x) refused items local stops is = let clash = is in cc
never_accepting (Err OutOfMemory) refused items local stops is = let clash = is in cc
never_accepting (Err CountsExhausted) refused items local stops is = stops
never_accepting (Err PatternNotBuilt) refused items local stops is = let clash = is in cc
never_accepting (Err StoreRefused) refused items local stops is = stops

pub never_doing : {X : Type 0} (r : Result X Fault) (context : List ℕ → Context) (before : List ℕ → Local) (refused : List (List ℕ)) → IfErr r (StopsDoing context before refused)
    → fault_in r ≡ Some StoreRefused → ⊥
never_doing (Ok x) context before refused stops is = let clash = is in cc
never_doing (Err OutOfMemory) context before refused stops is = let clash = is in cc
never_doing (Err CountsExhausted) context before refused stops is = let clash = is in cc
never_doing (Err PatternNotBuilt) context before refused stops is = let clash = is in cc
never_doing (Err StoreRefused) context before refused stops is = stops
