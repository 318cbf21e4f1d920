use Rattle.std.proofs.Common.{◌≡◌, ◌∙◌, ℕ, [], ◌∷◌, List, ap, length, map, refl, sym, arith}
use Rattle.std.proofs.lemmas.List.{length-map}
use Rattle.am_match.specs.Matchers.{MatcherText}
use Rattle.am_pattern.proofs.AskingLemmas.{stays-refl}
use Rattle.am_match.proofs.FailureLemmas.{failure_of_part, handed_on}
use Rattle.am_table.specs.Tables.{all_matchers}
use Rattle.am_table.proofs.QuestionLemmas.{among_numbers, among_lists, as_many_patterns}
use Rattle.am_table.proofs.TableLemmas.{table_of, taken_by}
use Rattle.am_table.proofs.table.taken_by_each.Goals as goal

pub ask_all-requires-clause-numbers : goal.ask_all-requires-clause-numbers
ask_all-requires-clause-numbers c =
    rw c.deref.ensures.value
    (among_numbers (map (λ list. list.now) c.args.lists.now) c.in_ok-questions.questions.items _ c.in_ok-questions.ensures
    (c.in_ok-table.ensures.count ∙ sym (length-map c.args.lists.now (λ list. list.now))))

pub returns-in_err-ask_all-clause-failure : goal.returns-in_err-ask_all-clause-failure
returns-in_err-ask_all-clause-failure c =
    handed_on _ c.from_residual-in_err-ask_all.result c.in_err-ask_all.field-0.0 c.from_residual-in_err-ask_all.ensures.1
    (failure_of_part (map (λ (q : ℕ × MatcherText). q.1) c.in_ok-questions.questions.items) (all_matchers (map (λ list. list.now) c.args.lists.now)) c.args.cache.now c.args.cache.now
    c.ask_all.new.cache c.in_err-ask_all.field-0.0 (among_lists (map (λ list. list.now) c.args.lists.now) c.in_ok-questions.questions.items c.in_ok-questions.ensures) (stays-refl _)
    (rw c.deref.ensures.value at c.in_err-ask_all.ensures.failure))

fused : {A B C : Type 0} (f : B → C) (g : A → B) (xs : List A) → map f (map g xs) ≡ map (λ x. f (g x)) xs
fused f g [] = refl
fused f g (x ∷ xs) = ap (λ rest. f (g x) ∷ rest) (fused f g xs)

pub returns-clause-table : goal.returns-clause-table
returns-clause-table c =
    let count : length c.in_ok-table.table.items ≡ length (map (λ list. list.now) c.args.lists.now) =
    c.in_ok-table.ensures.count ∙ sym (length-map c.args.lists.now (λ list. list.now)) in
    table_of (λ set. set.now) c.args.sets.now (map (λ list. list.now) c.args.lists.now) c.in_ok-questions.questions.items c.in_ok-questions.ensures c.ask_all.new.table.items
    (rw (count, c.deref.ensures.value) at c.in_ok-ask_all.ensures.rows)
    ∙ fused (taken_by (λ set. set.now) c.args.sets.now) (λ list. list.now) c.args.lists.now

pub returns-in_err-ask_all-clause-misses : goal.returns-in_err-ask_all-clause-misses
returns-in_err-ask_all-clause-misses c =
    let misses = rw c.deref.ensures.value at c.in_err-ask_all.ensures.misses in
    omega (arith, misses, as_many_patterns (map (λ list. list.now) c.args.lists.now) c.in_ok-questions.questions.items c.in_ok-questions.ensures)

pub returns-clause-misses : goal.returns-clause-misses
returns-clause-misses c =
    let misses = rw c.deref.ensures.value at c.in_ok-ask_all.ensures.misses in
    omega (arith, misses, as_many_patterns (map (λ list. list.now) c.args.lists.now) c.in_ok-questions.questions.items c.in_ok-questions.ensures)
