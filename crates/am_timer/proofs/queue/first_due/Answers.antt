use Rattle.std.proofs.Common.{rules, ◌≡◌, ◌++◌, true, false, length, [], ◌∷◌, arith, sym, ap, ◌∙◌, append-nil}
use Rattle.std.proofs.lemmas.Bool.Decides.{nat_tests}
use Rattle.std.proofs.lemmas.List.{length-append}
use Rattle.am_timer.specs.Queue.{due_at, is_due}
use Rattle.am_timer.proofs.DueLemmas.{all_listed, listed_next, rising_next}
use Rattle.am_timer.proofs.queue.first_due.Goals as goal
use Rattle.am_timer.proofs.queue.first_due.Goals.{in-None, in-Some+then-gt}

pub loop-timer-preserved : goal.loop-timer-preserved
loop-timer-preserved c =
    let split : c.loop-timer.timer-iterator ≡ c.in-Some.timer.now ∷ c.next.new.self = search rules in
    let due : is_due c.args.now c.in-Some.timer.now ≡ true = grind (arith, nat_tests, c.gt.ensures, c.if-gt.false) in
    let pushed : c.push.new.self.items ≡ c.loop-timer.due.items ++ c.in_ok-copy.field-0 ∷ [] = search rules in
    record {
      listed = rw pushed (listed_next c.args.now c.loop-timer.due.items c.next.new.self c.loop-timer.timer-iterator _ c.in-Some.timer.now c.in_ok-copy.field-0 split c.in_ok-copy.ensures due c.loop-timer.invariant.listed);
      rising = rising_next c.next.new.self c.loop-timer.timer-iterator c.in-Some.timer.now split c.loop-timer.invariant.rising;
      together = rw pushed (omega (arith, ap length split, c.loop-timer.invariant.together, length-append c.loop-timer.due.items (c.in_ok-copy.field-0 ∷ [])));
      counted = rw pushed (omega (arith, c.loop-timer.invariant.counted, length-append c.loop-timer.due.items (c.in_ok-copy.field-0 ∷ [])));
    }

pub returns-clause-due : goal.returns-clause-due
returns-clause-due c = elim c.match-next.branch [
  | in-None w ↦
      let none : c.loop-timer.timer-iterator ≡ [] = search rules in
      sym (append-nil c.loop-timer.due.items) ∙ ap (λ ys. c.loop-timer.due.items ++ due_at c.args.now ys) (sym none) ∙ c.loop-timer.invariant.listed
  | in-Some+then-gt w ↦
      let split : c.loop-timer.timer-iterator ≡ w.in-Some.timer.now ∷ c.next.new.self = search rules in
      let late : is_due c.args.now w.in-Some.timer.now ≡ false = grind (arith, nat_tests, w.gt.ensures, w.if-gt.true) in
      all_listed c.args.now c.loop-timer.due.items c.next.new.self c.loop-timer.timer-iterator _ w.in-Some.timer.now split c.loop-timer.invariant.rising late c.loop-timer.invariant.listed
]

pub returns-clause-looked : goal.returns-clause-looked
returns-clause-looked c = elim c.match-next.branch [
  | in-None w ↦
      let none : c.loop-timer.timer-iterator ≡ [] = search rules in
      omega (arith, w.looked-is, ap length none, c.loop-timer.invariant.counted, c.loop-timer.invariant.together)
  | in-Some+then-gt w ↦
      let split : c.loop-timer.timer-iterator ≡ w.in-Some.timer.now ∷ c.next.new.self = search rules in
      omega (arith, w.looked-is, ap length split, c.loop-timer.invariant.counted, c.loop-timer.invariant.together)
]

pub overflow_add-looked : goal.overflow_add-looked
overflow_add-looked c = grind (arith, c.loop-timer.invariant.counted, c.loop-timer.due.small, c.loop-timer.due.ok)
