use Rattle.std.proofs.Common.{◌≡◌, ◌∙◌, ◌<◌, ◌≤◌, ◌+◌, ℕ, zero, suc, Bool, true, false, List, [], ◌∷◌, ◌++◌, Option, None, Some}
use Rattle.std.proofs.Common.{◌⊎◌, inl, inr, length, length-append, get_or, take, drop, refl, sym, ap, subst, arith}
use Rattle.std.proofs.Common.{append_assoc, append-nil}
use Rattle.std.specs.Prelude.{nat_lt, slice_get, if◌then◌else◌}
use Rattle.std.specs.List.{flat_map}
use Rattle.std.proofs.lemmas.Bool.{cases_lt, le-ltb, lt-ltb}
use Rattle.std.proofs.lemmas.Grind.{flat_map-append}
use Rattle.std.proofs.lemmas.List.{drop-append-le, drop_all, length-take-le, take-append-le, take_all, take_more}
use Rattle.am_event.specs.declared.event.Event.{Event}
use Rattle.am_event.specs.declared.event.Event.TheVariants.{Deliver}
use Rattle.am_event.specs.declared.output.Output.{Output}
use Rattle.am_messages.specs.declared.name.MessageName.{MessageName}
use Rattle.am_world.specs.Consistent.{Contents}
use Rattle.am_world.specs.Runs.{Run}
use Rattle.am_world.specs.Simulation.{put_out}
use Rattle.am_world.specs.Steps.{Kept}
use Rattle.am_world.specs.Stopping.{Faulted, Step}
use Rattle.am_gateway.specs.Passing.{AddsTo, deliveries, deliveries_at, losses, message_at, message_in, message_where, passes, passes_at, passes_message, passes_within}

-- ---- runs

pub run_both : (a b c : Contents) (es fs : List Event) → Run a es b → Run b fs c → Run a (es ++ fs) c
run_both a b c [] fs first second = subst (λ w. Run w fs c) first second
run_both a b c (e ∷ es) fs first second = (first.0, first.1, run_both first.0 b c es fs first.2 second)

-- one event
pub one_step : (w : Contents) (e : Event) (w' : Contents) → Step w e w' → Run w (e ∷ []) w'
one_step w e w' step = (w', step, refl)

-- a message at a place is delivered, unless a million outputs come before it
pub delivered : (place moment : ℕ) (name : MessageName) (w w' : Contents) → place < 1000000
    → Step w (Deliver name moment) w' → Run w (deliveries_at place moment (Some name)) w'
delivered place moment name w w' within step =
    subst (λ (is : Bool). Run w (if is then Deliver name moment ∷ [] else []) w') (sym (lt-ltb place 1000000 within))
    (one_step w (Deliver name moment) w' step)

pub not_delivered : (place moment : ℕ) (name : MessageName) (w : Contents) → 1000000 ≤ place
    → Run w (deliveries_at place moment (Some name)) w
not_delivered place moment name w past =
    subst (λ (is : Bool). Run w (if is then Deliver name moment ∷ [] else []) w) (sym (le-ltb place 1000000 past)) refl

-- where no message is, nothing happens
pub none_passes : (place moment : ℕ) (message : Option MessageName) (w : Contents) → message ≡ None
    → Run w (passes_at place moment message) w
none_passes place moment message w none =
    subst (λ m. Run w (passes_at place moment m) w) (sym none) (either (nat_lt place 1000000))
  where
    either : (is : Bool) → Run w ((if is then [] else []) ++ []) w
    either true = refl
    either false = refl

pub adds_none : (outs : List Output) → AddsTo outs outs
adds_none outs = ([], sym (append-nil outs))

-- a step puts out more, and leaves what was put out
ended_adds : (w : Contents) (e : Event) (w' : Contents) → Kept w e w' ⊎ Faulted w e w'
    → AddsTo (put_out w.state) (put_out w'.state)
ended_adds w e w' (inl kept) = (_, kept.appended)
ended_adds w e w' (inr (inl some)) = (_, some.appended)
ended_adds w e w' (inr (inr nothing)) = ([], nothing.outputs ∙ sym (append-nil (put_out w.state)))

pub step_adds : (w : Contents) (e : Event) (w' : Contents) → Step w e w'
    → AddsTo (put_out w.state) (put_out w'.state)
step_adds w e w' step = ended_adds w e w' step.ends

pub adds_twice : (a b c : List Output) → AddsTo a b → AddsTo b c → AddsTo a c
adds_twice a b c first second =
    (first.0 ++ second.0, second.1 ∙ ap (λ l. l ++ second.0) first.1 ∙ append_assoc a first.0 second.0)

-- ---- one output more

-- what is at a place
pub found : (outs : List Output) (place : ℕ) → place < length outs
    → (output : Output) × (slice_get outs place ≡ Some output) × (get_or outs place output ≡ output)
found [] place within = absurd (omega (arith, within))
found (x ∷ xs) zero within = (x, refl, refl)
found (x ∷ xs) (suc place) within =
    let rest = found xs place (omega (arith, within)) in
    (rest.0, rest.1, rest.2)

-- one that is among the first is passed on
within_more : (most moment : ℕ) (outs : List Output) (output : Output) → length outs < most
    → passes_within most moment (outs ++ output ∷ [])
    ≡ passes_within most moment outs ++ passes_message moment (message_in output)
within_more most moment outs output within =
    let On : Output → List Event = λ o. passes_message moment (message_in o) in
    let Lost : Output → List Event = λ o. losses (message_in o) in
    let all : take most (outs ++ output ∷ []) ≡ outs ++ output ∷ [] = take_all most (outs ++ output ∷ []) (omega (arith, length-append outs (output ∷ []), within)) in
    let none : drop most (outs ++ output ∷ []) ≡ [] = drop_all most (outs ++ output ∷ []) (omega (arith, length-append outs (output ∷ []), within)) in
    let before : take most outs ≡ outs = take_all most outs (omega (arith, within)) in
    let none_before : drop most outs ≡ [] = drop_all most outs (omega (arith, within)) in
    ap (λ l. flat_map On l ++ flat_map Lost (drop most (outs ++ output ∷ []))) all
    ∙ ap (λ l. flat_map On (outs ++ output ∷ []) ++ flat_map Lost l) none
    ∙ append-nil (flat_map On (outs ++ output ∷ []))
    ∙ flat_map-append On outs (output ∷ [])
    ∙ ap (λ l. flat_map On outs ++ l) (append-nil (On output))
    ∙ ap (λ l. l ++ On output) (sym (append-nil (flat_map On outs)))
    ∙ ap (λ l. (flat_map On outs ++ flat_map Lost l) ++ On output) (sym none_before)
    ∙ ap (λ l. (flat_map On l ++ flat_map Lost (drop most outs)) ++ On output) (sym before)

-- one behind them is lost
past_more : (most moment : ℕ) (outs : List Output) (output : Output) → most ≤ length outs
    → passes_within most moment (outs ++ output ∷ [])
    ≡ passes_within most moment outs ++ losses (message_in output)
past_more most moment outs output past =
    let On : Output → List Event = λ o. passes_message moment (message_in o) in
    let Lost : Output → List Event = λ o. losses (message_in o) in
    ap (λ l. flat_map On l ++ flat_map Lost (drop most (outs ++ output ∷ []))) (take-append-le most outs (output ∷ []) past)
    ∙ ap (λ l. flat_map On (take most outs) ++ flat_map Lost l) (drop-append-le most outs (output ∷ []) past)
    ∙ ap (λ l. flat_map On (take most outs) ++ l)
    (flat_map-append Lost (drop most outs) (output ∷ []) ∙ ap (λ l. flat_map Lost (drop most outs) ++ l) (append-nil (Lost output)))
    ∙ sym (append_assoc (flat_map On (take most outs)) (flat_map Lost (drop most outs)) (Lost output))

-- .. by whether so many come before it
pub more_at : (moment place : ℕ) (outs : List Output) (output : Output) → length outs ≡ place
    → passes moment (outs ++ output ∷ []) ≡ passes moment outs ++ passes_at place moment (message_in output)
more_at moment place outs output here = elim (cases_lt place 1000000) [
  | inl within ↦
      within_more 1000000 moment outs output (omega (arith, here, within)) ∙ ap passes_if (sym (lt-ltb place 1000000 within))
  | inr past ↦
      past_more 1000000 moment outs output (omega (arith, here, past)) ∙ ap passes_if (sym (le-ltb place 1000000 past))
]
  where
    passes_if : Bool → List Event
    passes_if is = passes moment outs
        ++ ((if is then deliveries moment (message_in output) else []) ++ losses (message_in output))

-- ---- the loop

-- the messages among the outputs before a place were passed on
pub record Passed (first now : Contents) (moment place : ℕ) : Type 0 where
  pub within : place ≤ length (put_out now.state)
  pub run : Run first (passes moment (take place (put_out now.state))) now

pub none_passed : (w : Contents) (moment : ℕ) → Passed w w moment 0
none_passed w moment = record { within = omega arith; run = refl }

-- what one place more comes to
next_passes : (moment place : ℕ) (old new : List Output) → AddsTo old new → place < length old
    → passes moment (take (place + 1) new)
    ≡ passes moment (take place old) ++ passes_at place moment (message_at place old)
next_passes moment place old new adds within =
    let one = found old place within in
    let same : take (place + 1) new ≡ take place old ++ one.0 ∷ [] =
    ap (λ l. take (place + 1) l) adds.1 ∙ take-append-le (place + 1) old adds.0 (omega (arith, within))
    ∙ take_more old place one.0 within ∙ ap (λ output. take place old ++ output ∷ []) one.2 in
    ap (λ l. passes moment l) same
    ∙ more_at moment place (take place old) one.0 (length-take-le place old (omega (arith, within)))
    ∙ ap (λ message. passes moment (take place old) ++ passes_at place moment message) (sym (ap message_where one.1))

pub one_passed : (first now new : Contents) (moment place : ℕ) → Passed first now moment place
    → place < length (put_out now.state)
    → Run now (passes_at place moment (message_at place (put_out now.state))) new
    → AddsTo (put_out now.state) (put_out new.state) → Passed first new moment (place + 1)
one_passed first now new moment place before within run adds = record {
  within = omega (arith, ap length adds.1, length-append (put_out now.state) adds.0, within);
  run = subst (λ es. Run first es new)
      (sym (next_passes moment place (put_out now.state) (put_out new.state) adds within))
      (run_both first now new _ _ before.run run);
}

pub all_passed : (first now : Contents) (moment place : ℕ) → Passed first now moment place
    → length (put_out now.state) ≤ place → Run first (passes moment (put_out now.state)) now
all_passed first now moment place passed over =
    subst (λ outs. Run first (passes moment outs) now) (take_all place (put_out now.state) over) passed.run
