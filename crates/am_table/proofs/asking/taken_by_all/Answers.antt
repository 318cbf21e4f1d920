use Rattle.std.proofs.Common.{◌∙◌, ◌+◌, ap, length, map, take, sym, arith}
use Rattle.std.proofs.lemmas.List.{length-map}
use Rattle.std.proofs.lemmas.Result.{err_from_is_err_and}
use Rattle.am_pattern.proofs.AskingLemmas.{grows-stays, grows-trans, stays-refl, stays-trans}
use Rattle.am_labels.specs.Sets.{value_of}
use Rattle.am_match.specs.Meaning.{all_take}
use Rattle.am_table.proofs.NarrowLemmas.{none_asked, one_more_asked, failure_of_one, memory_alone, narrowed-values, patterns-more, patterns-some}
use Rattle.am_table.specs.Narrowing.{narrowed_by}
use Rattle.am_table.proofs.asking.taken_by_all.Goals as goal

pub loop-matcher-init : goal.loop-matcher-init
loop-matcher-init c = record {
  stays = stays-refl _;
  taken = c.in_ok-taken.ensures.items_if_clones_equal (λ y same. same) ∙ none_asked (λ set. set.now) c.args.sets.now;
  misses = omega arith;
}

pub returns-in_err-values-clause-asked : goal.returns-in_err-values-clause-asked
returns-in_err-values-clause-asked c =
    let p = err_from_is_err_and c.from_residual-in_err-values.result c.from_residual-in_err-values.ensures.1 in
    rw p.1 (grows-stays c.args.cache.now c.loop-matcher.cache c.loop-matcher.invariant.stays)

pub returns-in_err-values-clause-misses : goal.returns-in_err-values-clause-misses
returns-in_err-values-clause-misses c =
    omega (arith, c.loop-matcher.invariant.misses, patterns-some c.args.matchers.now c.loop-matcher.matcher-index)

pub narrow-requires : goal.narrow-requires
narrow-requires c =
    let sets = c.args.sets.now in
    let taken = ap length c.loop-matcher.invariant.taken in
    let all = length-map sets (λ set. all_take (take c.loop-matcher.matcher-index c.args.matchers.now) set.now) in
    let values = ap length c.in_ok-values.ensures in
    let each = length-map c.in_ok-values.values.items (λ value. value.now) in
    let named = length-map sets (λ set. value_of c.name.result.now set.now) in
    record { each = omega (arith, taken, all, values, each, named, ap length c.deref.ensures.value) }

pub returns-in_err-narrow-clause-asked : goal.returns-in_err-narrow-clause-asked
returns-in_err-narrow-clause-asked c =
    let p = err_from_is_err_and c.from_residual-in_err-narrow.result c.from_residual-in_err-narrow.ensures.1 in
    rw p.1 (grows-trans c.args.cache.now c.loop-matcher.cache c.narrow.new.cache
    (grows-stays c.args.cache.now c.loop-matcher.cache c.loop-matcher.invariant.stays) c.in_err-narrow.ensures.asked)

pub returns-in_err-narrow-clause-misses : goal.returns-in_err-narrow-clause-misses
returns-in_err-narrow-clause-misses c =
    let more = patterns-more c.args.matchers.now c.loop-matcher.matcher-index c.matcher-item.result c.loop-matcher-test.true c.matcher-item.is in
    let some = patterns-some c.args.matchers.now (c.loop-matcher.matcher-index + 1) in
    omega (arith, more, some, c.loop-matcher.invariant.misses, c.in_err-narrow.ensures.misses)

pub returns-in_err-narrow-clause-failure : goal.returns-in_err-narrow-clause-failure
returns-in_err-narrow-clause-failure c =
    let p = err_from_is_err_and c.from_residual-in_err-narrow.result c.from_residual-in_err-narrow.ensures.1 in
    rw (p.1, p.2)
    (failure_of_one _ c.matcher-item.result _ _ _ _
    (c.loop-matcher.matcher-index, c.loop-matcher-test.true, sym c.matcher-item.is) c.loop-matcher.invariant.stays
    c.in_err-narrow.ensures.failure)

pub returns-in_err-narrow-clause-meaning : goal.returns-in_err-narrow-clause-meaning
returns-in_err-narrow-clause-meaning c =
    let p = err_from_is_err_and c.from_residual-in_err-narrow.result c.from_residual-in_err-narrow.ensures.1 in
    rw (p.1, p.2)
    (λ patterns rightly. memory_alone _ _ _ _
    (failure_of_one _ c.matcher-item.result _ _ _ _
    (c.loop-matcher.matcher-index, c.loop-matcher-test.true, sym c.matcher-item.is) c.loop-matcher.invariant.stays
    c.in_err-narrow.ensures.failure) patterns rightly)

pub loop-matcher-preserved : goal.loop-matcher-preserved
loop-matcher-preserved c =
    let m = c.matcher-item.result in
    let sets = c.args.sets.now in
    let i = c.loop-matcher.matcher-index in
    let more = patterns-more c.args.matchers.now i m c.loop-matcher-test.true c.matcher-item.is in
    let before = map (λ set. all_take (take i c.args.matchers.now) set.now) sets in
    record {
      stays = stays-trans _ _ _ c.loop-matcher.invariant.stays c.in_ok-narrow.ensures.asked;
      taken =
          c.in_ok-narrow.ensures.flags
          ∙ ap (narrowed_by m (map (λ value. value.now) c.deref.result.now)) c.loop-matcher.invariant.taken
          ∙ ap (λ values. narrowed_by m (map (λ value. value.now) values) before) c.deref.ensures.value
          ∙ ap (λ values. narrowed_by m values before) c.in_ok-values.ensures
          ∙ ap (λ name. narrowed_by m (map (λ set. value_of name set.now) sets) before) c.name.ensures.name
          ∙ narrowed-values m (λ set. set.now) sets before
          ∙ one_more_asked (λ set. set.now) c.args.matchers.now i m c.loop-matcher-test.true c.matcher-item.is sets;
      misses = omega (arith, more, c.loop-matcher.invariant.misses, c.in_ok-narrow.ensures.misses);
    }
