use Rattle.std.proofs.Common.{arith}
use Rattle.std.proofs.lemmas.Grind.{common_steps}
use Rattle.std.proofs.lemmas.Result.{err_from_is_err_and}
use Rattle.am_pattern.proofs.AskingLemmas.{asked-after, asked-refl, stays-trans}
use Rattle.am_config.proofs.Building.{built_more}
use Rattle.am_config.proofs.Stops.{stop_among}
use Rattle.am_config.proofs.matching.read_lists.Goals as goal

pub loop-list-preserved : goal.loop-list-preserved
loop-list-preserved c = record {
  so_far = grind (arith, common_steps);
  reads = grind (arith, common_steps);
  built = built_more (λ list. list.now) _ _ c.list-item.result c.loop-list-test.true c.list-item.is c.loop-list.invariant.built
      c.in_ok-matchers.ensures.built;
  stays = stays-trans _ _ _ c.loop-list.invariant.stays c.in_ok-matchers.ensures.asked;
}

pub returns-in_err-matchers-clause-stop : goal.returns-in_err-matchers-clause-stop
returns-in_err-matchers-clause-stop c =
    let p = err_from_is_err_and c.from_residual-in_err-matchers.result c.from_residual-in_err-matchers.ensures.1 in
    rw (p.1, p.2)
    (stop_among (λ list. list.now) _ _ _ c.loop-list-test.true c.list-item.is _ _ _ _ c.loop-list.invariant.reads c.loop-list.invariant.stays
    c.in_err-matchers.ensures.stop)

pub returns-in_err-push-clause-asked : goal.returns-in_err-push-clause-asked
returns-in_err-push-clause-asked c =
    asked-after _ _ _ _ (stays-trans _ _ _ c.loop-list.invariant.stays c.in_ok-matchers.ensures.asked) (asked-refl _ _)
