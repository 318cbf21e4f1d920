use Rattle.std.proofs.Common.{◌≡◌, ◌∙◌, ◌&&◌, Bor, List, ap, false, get_or, length, map, sym, [], arith}
use Rattle.am_labels.specs.declared.label_set.LabelSet.{LabelSet}
use Rattle.am_match.specs.Matchers.{MatcherText}
use Rattle.am_match.proofs.FailureLemmas.{failure_of_part, handed_on}
use Rattle.am_table.specs.Tables.{all_matchers}
use Rattle.am_pattern.proofs.AskingLemmas.{stays-refl}
use Rattle.am_config.specs.declared.parts.Rule.{Rule}
use Rattle.am_inhibit.specs.Inhibits.{rule_matchers}
use Rattle.am_inhibit.specs.Sides.{sides_in}
use Rattle.am_inhibit.proofs.DifferentLemmas.{different_among, different_inhibit, different_patterns}
use Rattle.am_inhibit.proofs.RuleLemmas.{rows_of_sides, sides_matchers}
use Rattle.am_inhibit.proofs.rules.links_of.Goals as goal

now : Bor Rule → Rule
now r = r.now

list : Bor (List MatcherText) → List MatcherText
list l = l.now

-- the matchers that are asked are those of the different rules
same_matchers : (refs held : List (Bor Rule)) (lists asked : List (Bor (List MatcherText))) → held ≡ refs → asked ≡ lists →
    map list lists ≡ sides_in (map now held) → all_matchers (map list asked) ≡ rule_matchers (map now refs)
same_matchers refs held lists asked is are sides =
    ap all_matchers (ap (map list) are ∙ sides ∙ ap (λ rs. sides_in (map now rs)) is) ∙ sides_matchers (map now refs)

pub returns-in_err-table-clause-misses : goal.returns-in_err-table-clause-misses
unfolding now list
returns-in_err-table-clause-misses c =
    let refs = c.in_ok-different.different.items in
    let same = same_matchers refs c.deref.result.now c.in_ok-lists.lists.items c.deref-2.result.now c.deref.ensures.value c.deref-2.ensures.value c.in_ok-lists.ensures in
    let misses = rw same at c.in_err-table.ensures.misses in
    omega (arith, misses, different_patterns c.args.rules.now (map now refs) c.in_ok-different.ensures)

pub returns-in_err-table-clause-failure : goal.returns-in_err-table-clause-failure
unfolding now list
returns-in_err-table-clause-failure c =
    let refs = c.in_ok-different.different.items in
    let same = same_matchers refs c.deref.result.now c.in_ok-lists.lists.items c.deref-2.result.now c.deref.ensures.value c.deref-2.ensures.value c.in_ok-lists.ensures in
    handed_on _ c.from_residual-in_err-table.result c.in_err-table.field-0.0 c.from_residual-in_err-table.ensures.1
    (failure_of_part (rule_matchers (map now refs)) (rule_matchers c.args.rules.now) c.args.cache.now c.args.cache.now c.taken_by_each.new.cache c.in_err-table.field-0.0
    (different_among c.args.rules.now (map now refs) c.in_ok-different.ensures) (stays-refl _) (rw same at c.in_err-table.ensures.failure))

pub linked_by-requires-clause-table : goal.linked_by-requires-clause-table
unfolding now list
linked_by-requires-clause-table c =
    ap (map (λ row. row.items)) c.deref-4.ensures.value
    ∙ c.in_ok-table.ensures.table
    ∙ rows_of_sides c.args.sets.now (sides_in (map now c.deref-3.result.now)) c.deref-2.result.now
    (ap (map list) c.deref-2.ensures.value ∙ c.in_ok-lists.ensures ∙ ap (λ rs. sides_in (map now rs)) (c.deref.ensures.value ∙ sym c.deref-3.ensures.value))

pub returns-in_err-links-clause-misses : goal.returns-in_err-links-clause-misses
unfolding now list
returns-in_err-links-clause-misses c =
    let refs = c.in_ok-different.different.items in
    let same = same_matchers refs c.deref.result.now c.in_ok-lists.lists.items c.deref-2.result.now c.deref.ensures.value c.deref-2.ensures.value c.in_ok-lists.ensures in
    let misses = rw same at c.in_ok-table.ensures.misses in
    omega (arith, misses, different_patterns c.args.rules.now (map now refs) c.in_ok-different.ensures)

pub returns-clause-misses : goal.returns-clause-misses
unfolding now list
returns-clause-misses c =
    let refs = c.in_ok-different.different.items in
    let same = same_matchers refs c.deref.result.now c.in_ok-lists.lists.items c.deref-2.result.now c.deref.ensures.value c.deref-2.ensures.value c.in_ok-lists.ensures in
    let misses = rw same at c.in_ok-table.ensures.misses in
    omega (arith, misses, different_patterns c.args.rules.now (map now refs) c.in_ok-different.ensures)

pub returns-clause-inhibitors : goal.returns-clause-inhibitors
unfolding now list
returns-clause-inhibitors c = λ k place below within.
    let sets = map (λ (set : Bor LabelSet). set.now) c.args.sets.now in
    let found = rw c.deref-3.ensures.value at c.in_ok-links.ensures.inhibitors in
    found k place below within
    ∙ ap (λ b. get_or c.args.fires.now place false && b)
    (different_inhibit c.args.rules.now (map now c.in_ok-different.different.items) c.in_ok-different.ensures (get_or sets place []) (get_or sets k []))
