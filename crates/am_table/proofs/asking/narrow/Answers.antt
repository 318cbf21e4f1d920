use Rattle.std.proofs.Common.{◌∙◌, Bool, Bor, List, ℕ, ap, filter, map, zip}
use Rattle.am_match.specs.Meaning.{passes}
use Rattle.am_table.specs.Narrowing.{answered}
use Rattle.am_table.proofs.NarrowLemmas.{answered-narrowed}
use Rattle.am_table.proofs.asking.narrow.Goals as goal

pub returns-clause-flags : goal.returns-clause-flags
returns-clause-flags c =
    let m = c.args.matcher.now in
    let values = c.args.values.now in
    let test : Bor (List ℕ) → Bool = λ value. passes m.operator m.value value.now in
    let left = λ (flags : List Bool). map (λ (pair : Bor (List ℕ) × Bool). pair.0) (filter (λ (pair : Bor (List ℕ) × Bool). pair.1) (zip values flags)) in
    c.in_ok-settled.ensures
    ∙ ap (λ flags. answered flags c.deref-4.result.now) c.deref-3.ensures.value
    ∙ ap (answered c.args.flags.now.items)
    (c.deref-4.ensures.value ∙ c.in_ok-answers.ensures.values
    ∙ ap (map test) (c.deref-2.ensures.value ∙ c.in_ok-left.ensures ∙ ap left c.deref.ensures.value))
    ∙ answered-narrowed m (λ value. value.now) values c.args.flags.now.items c.requires.each
