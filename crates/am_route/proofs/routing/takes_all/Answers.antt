use Rattle.std.proofs.Common.{◌∙◌, sym}
use Rattle.am_pattern.proofs.AskingLemmas.{grows-stays, grows-trans, stays-trans}
use Rattle.am_route.specs.Asked.{asked_of}
use Rattle.am_route.proofs.AskedLemmas.{asked_behind, asked_there, taken_behind}
use Rattle.am_match.proofs.FailureLemmas.{asked_on, handed_on}
use Rattle.am_table.proofs.NarrowLemmas.{failure_of_one}
use Rattle.am_route.proofs.routing.takes_all.Goals as goal

pub returns-in_err-matches-clause-failure : goal.returns-in_err-matches-clause-failure
returns-in_err-matches-clause-failure c =
    let there = asked_there c.args.labels.now c.args.matchers.now c.loop-matcher.matcher-index c.matcher-item.result c.loop-matcher-test.true c.matcher-item.is in
    handed_on _ c.from_residual.result c.in_err-matches.field-0.0 c.from_residual.ensures.1
    (failure_of_one (asked_of c.args.labels.now c.args.matchers.now) c.matcher-item.result c.args.cache.now c.loop-matcher.cache c.matches.new.cache c.in_err-matches.field-0.0
    (c.loop-matcher.invariant.asked c.matcher-item.result there) c.loop-matcher.invariant.stays c.in_err-matches.ensures.failure)

pub returns-in_err-matches-clause-asked : goal.returns-in_err-matches-clause-asked
returns-in_err-matches-clause-asked c =
    asked_on c.from_residual.result c.in_err-matches.field-0.0 c.args.cache.now c.matches.new.cache c.from_residual.ensures.1
    (grows-trans c.args.cache.now c.loop-matcher.cache c.matches.new.cache
    (grows-stays c.args.cache.now c.loop-matcher.cache c.loop-matcher.invariant.stays) c.in_err-matches.ensures.asked)

pub loop-matcher-preserved : goal.loop-matcher-preserved
loop-matcher-preserved c =
    let takes = sym c.in_ok-matches.ensures.value ∙ c.if-not-branch.false in
    record {
      value =
          taken_behind c.args.labels.now c.args.matchers.now c.loop-matcher.matcher-index c.matcher-item.result c.loop-matcher-test.true c.matcher-item.is takes
          ∙ c.loop-matcher.invariant.value;
      asked = λ matcher at. c.loop-matcher.invariant.asked matcher
          (asked_behind c.args.labels.now c.args.matchers.now c.loop-matcher.matcher-index c.matcher-item.result c.loop-matcher-test.true c.matcher-item.is takes matcher at);
      stays = stays-trans c.args.cache.now c.loop-matcher.cache c.matches.new.cache c.loop-matcher.invariant.stays c.in_ok-matches.ensures.asked;
    }
