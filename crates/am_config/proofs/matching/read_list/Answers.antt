use Rattle.std.proofs.Common.{append-nil, arith}
use Rattle.std.proofs.lemmas.Grind.{common_steps}
use Rattle.std.proofs.lemmas.Result.{err_from_is_err_and}
use Rattle.am_pattern.specs.Kept.{HasRegex}
use Rattle.am_pattern.proofs.AskingLemmas.{asked-after, asked-refl, stays-trans}
use Rattle.am_config.specs.Matching.{matchers_in}
use Rattle.am_config.proofs.Building.{all_more}
use Rattle.am_config.proofs.Stops.{text_stop_among}
use Rattle.am_config.proofs.matching.read_list.Goals as goal

pub loop-text-preserved : goal.loop-text-preserved
unfolding matchers_in
loop-text-preserved c = record {
  so_far = grind (arith, common_steps);
  reads = grind (arith, common_steps);
  built = all_more HasRegex _ _ _ c.text-item.result c.loop-text-test.true c.text-item.is c.loop-text.invariant.built
      (rw (c.as_str.ensures, append-nil) at c.in_ok-found.ensures.built);
  stays = stays-trans _ _ _ c.loop-text.invariant.stays c.in_ok-found.ensures.asked;
}

pub returns-in_err-found-clause-stop : goal.returns-in_err-found-clause-stop
returns-in_err-found-clause-stop c =
    let p = err_from_is_err_and c.from_residual.result c.from_residual.ensures.1 in
    rw (p.1, p.2)
    (text_stop_among _ _ _ c.loop-text-test.true c.text-item.is _ _ _ _ c.loop-text.invariant.reads c.loop-text.invariant.stays
    (rw c.as_str.ensures at c.in_err-found.ensures.stop))

pub returns-in_err-append-clause-asked : goal.returns-in_err-append-clause-asked
returns-in_err-append-clause-asked c =
    asked-after _ _ _ _ (stays-trans _ _ _ c.loop-text.invariant.stays c.in_ok-found.ensures.asked) (asked-refl _ _)
