-- What a tenant is answered is what a queue of its own answers.
use Rattle.std.proofs.Common.{◌≡◌, ℕ, Bool, true, false, not, List, [], ◌∷◌, map, refl, sym, ap, ◌∙◌, if◌then◌else◌}
use Rattle.std.specs.List.Sorted.{IsStrictlySortedBy}
use Rattle.am_timer.specs.Timer.{Timer, timer_cmp}
use Rattle.am_timer.specs.Queue.{due_at, is_due, is_named, timers_of, with_timer, without}
use Rattle.am_timer.specs.Calls.{Call, Sets, Cancels, Asks, answers, calls_of, is_for}
use Rattle.am_timer.proofs.TiedLemmas.{rising-filter, rising-insert}
use Rattle.am_timer.proofs.Tenants.{each_with, each_without, timers_of-filter}

-- from what a tenant has after a call to what it is answered from then on
goes_on : (t : List ℕ) (call : Call) (calls : List Call) (own : List Timer → List Timer) (xs next : List Timer) → ((ys : List Timer) → answers (call ∷ calls_of t calls) ys ≡ answers (calls_of t calls) (own ys))
    → timers_of t next ≡ (if is_for t call then own (timers_of t xs) else timers_of t xs) → map (timers_of t) (answers calls next) ≡ answers (calls_of t calls) (timers_of t next)
    → map (timers_of t) (answers calls next) ≡ answers (calls_of t (call ∷ calls)) (timers_of t xs)
goes_on t call calls own xs next does left rest = by_cases (is_for t call) refl
  where
    by_cases : (b : Bool) → is_for t call ≡ b → map (timers_of t) (answers calls next) ≡ answers (calls_of t (call ∷ calls)) (timers_of t xs)
    by_cases true e = rw e (rest ∙ ap (answers (calls_of t calls)) (left ∙ ap (λ b. if b then own (timers_of t xs) else timers_of t xs) e) ∙ sym (does (timers_of t xs)))
    by_cases false e = rw e (rest ∙ ap (answers (calls_of t calls)) (left ∙ ap (λ b. if b then own (timers_of t xs) else timers_of t xs) e))

pub alone : (t : List ℕ) (calls : List Call) (xs : List Timer) → IsStrictlySortedBy timer_cmp xs → map (timers_of t) (answers calls xs) ≡ answers (calls_of t calls) (timers_of t xs)
alone t [] xs rising = refl
alone t (Sets x ∷ calls) xs rising =
    goes_on t (Sets x) calls (with_timer x) xs (with_timer x xs) (λ ys. refl) (each_with x xs rising t)
    (alone t calls (with_timer x xs) (rising-insert _ x (rising-filter (λ y. not (is_named x.name y)) xs rising)))
alone t (Cancels n ∷ calls) xs rising =
    goes_on t (Cancels n) calls (without n) xs (without n xs) (λ ys. refl) (each_without n xs t) (alone t calls (without n xs) (rising-filter (λ y. not (is_named n y)) xs rising))
alone t (Asks now ∷ calls) xs rising =
    ap (λ ys. ys ∷ map (timers_of t) (answers calls xs)) (timers_of-filter t (is_due now) xs) ∙ ap (λ rest. due_at now (timers_of t xs) ∷ rest) (alone t calls xs rising)
