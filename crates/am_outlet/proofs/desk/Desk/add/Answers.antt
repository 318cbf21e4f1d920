use Rattle.std.proofs.Common.{◌≡◌, ◌≤◌, ◌<◌, ℕ, ◌+◌, List, cond, None, Some, Option, sym, ap, ◌∙◌, arith, refl}
use Rattle.std.specs.Ordering.{is_eq}
use Rattle.am_item.specs.EntryKey.{entry_cmp}
use Rattle.am_item.specs.declared.entry.EntryKey.{EntryKey}
use Rattle.am_outlet.specs.declared.attempt.Attempt.{Attempt}
use Rattle.am_outlet.specs.Attempts.{Desk, attempt_at, number_in, number_with}
use Rattle.am_outlet.proofs.Kept.{kept_more, kept_same, number_told, told_back}
use Rattle.am_outlet.proofs.Lists.{appended}
use Rattle.am_outlet.proofs.desk.Desk.add.Goals as goal

-- a change at a key is one at an equal key
along : (a b : EntryKey) (before after : List (EntryKey × ℕ)) (w : Option ℕ) → a ≡ b → ((k : EntryKey) → number_in after k ≡ cond (is_eq (entry_cmp a k)) w (number_in before k)) → (k : EntryKey) → number_in after k ≡ cond (is_eq (entry_cmp b k)) w (number_in before k)
along a b before after w same updates k = updates k ∙ ap (λ (m : EntryKey). cond (is_eq (entry_cmp m k)) w (number_in before k)) same

below : (m used : ℕ) → m ≤ used → m < used + 1
below m used h = omega arith

pub invariant_of-self-in-Err : goal.invariant_of-self-in-Err
invariant_of-self-in-Err c =
    let used = c.self.inside.used in
    let es = c.self.inside.attempts.entries in
    let numbers = c.self.inside.numbers.entries in
    let none : number_in numbers c.args.key ≡ None = number_told used es numbers c.self.invariant c.args.key ∙ ap (λ (d : Desk). number_with c.args.key d.open_ones) c.self.view_is ∙ c.requires.absent in
    kept_same used es c.insert-2.new.self.entries numbers c.remove.new.self.entries c.self.invariant c.insert-2.ensures.ordered
    (λ q. ap (attempt_at q) c.in-Err.ensures.err)
    (told_back numbers c.insert.new.self.entries c.remove.new.self.entries c.args.key (used + 1) none c.in_ok-insert.ensures.updates.0
    (along c.in-Err.refused.value.1.notice.key c.args.key c.insert.new.self.entries c.remove.new.self.entries None
    (ap (λ (p : ℕ × Attempt). p.1.notice.key) c.in-Err.ensures.value_returned ∙ sym c.requires.key) c.remove.ensures.updates.0))

pub invariant_of-self-2 : goal.invariant_of-self-2
invariant_of-self-2 c =
    let used = c.self.inside.used in
    let es = c.self.inside.attempts.entries in
    let numbers = c.self.inside.numbers.entries in
    let none : number_in numbers c.args.key ≡ None = number_told used es numbers c.self.invariant c.args.key ∙ ap (λ (d : Desk). number_with c.args.key d.open_ones) c.self.view_is ∙ c.requires.absent in
    let attempt : Attempt = record { notice = c.args.notice; tries = 1; again = None } in
    kept_more used es c.insert-2.new.self.entries numbers c.insert.new.self.entries c.self.invariant c.insert-2.ensures.ordered (used + 1) attempt refl
    (omega arith, λ h. absurd (cc)) (ap (number_in numbers) (sym c.requires.key) ∙ none) c.in_default.ensures.updates.0
    (along c.args.key c.args.notice.key numbers c.insert.new.self.entries (Some (used + 1)) c.requires.key c.in_ok-insert.ensures.updates.0)

pub returns-clause-added : goal.returns-clause-added
returns-clause-added c =
    let used = c.self.inside.used in
    let es = c.self.inside.attempts.entries in
    let attempt : Attempt = record { notice = c.args.notice; tries = 1; again = None } in
    rw (← c.self.view_is) (ap (λ (xs : List (ℕ × Attempt)). let d : Desk = record { used = used + 1; open_ones = xs } in d)
    (c.in_default.ensures.entries ∙ appended (used + 1) attempt es c.self.invariant.rising (λ m b at. below m used (c.self.invariant.past m b at))))
