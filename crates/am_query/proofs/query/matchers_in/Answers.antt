use Rattle.std.proofs.Common.{◌≡◌, length, arith}
use Rattle.std.proofs.Math.Seq.{take-length}
use Rattle.std.proofs.lemmas.Result.{err_from_is_err_and}
use Rattle.am_pattern.proofs.AskingLemmas.{asked-after, asked-refl, stays-trans}
use Rattle.am_pattern.specs.Kept.{HasRegex}
use Rattle.am_config.proofs.Building.{all_more}
use Rattle.am_query.proofs.QueryLemmas.{all_done, own_failed, own_more}
use Rattle.am_query.proofs.StoppingLemmas.{all_fine, fine_more, stop_among}
use Rattle.am_query.proofs.query.matchers_in.Goals as goal

pub returns-in_err-own-clause-read : goal.returns-in_err-own-clause-read
returns-in_err-own-clause-read c =
    let p = err_from_is_err_and c.from_residual.result c.from_residual.ensures.1 in
    rw (p.1, p.2)
    (own_failed _ _ _ c.parameter-item.result _ _ c.loop-parameter-test.true c.parameter-item.is c.loop-parameter.invariant.so_far
    c.in_err-own.ensures.read)

pub returns-in_err-own-clause-stop : goal.returns-in_err-own-clause-stop
returns-in_err-own-clause-stop c =
    let p = err_from_is_err_and c.from_residual.result c.from_residual.ensures.1 in
    rw (p.1, p.2)
    (stop_among _ _ c.parameter-item.result c.loop-parameter-test.true c.parameter-item.is _ _ _ _ c.loop-parameter.invariant.fine
    c.loop-parameter.invariant.stays c.in_err-own.ensures.failure)

pub returns-in_err-append-clause-asked : goal.returns-in_err-append-clause-asked
returns-in_err-append-clause-asked c =
    asked-after _ _ _ _ (stays-trans _ _ _ c.loop-parameter.invariant.stays c.in_ok-own.ensures.asked) (asked-refl _ _)

pub loop-parameter-preserved : goal.loop-parameter-preserved
loop-parameter-preserved c = record {
  so_far = own_more _ _ c.parameter-item.result _ _ _ c.loop-parameter-test.true c.parameter-item.is c.loop-parameter.invariant.so_far
      c.in_ok-own.ensures.read c.in_ok-append.ensures.items;
  fine = fine_more _ _ c.parameter-item.result c.loop-parameter-test.true c.parameter-item.is c.loop-parameter.invariant.fine
      c.in_ok-own.ensures.passes;
  built = all_more HasRegex _ _ _ c.parameter-item.result c.loop-parameter-test.true c.parameter-item.is c.loop-parameter.invariant.built
      c.in_ok-own.ensures.built;
  stays = stays-trans _ _ _ c.loop-parameter.invariant.stays c.in_ok-own.ensures.asked;
}

pub returns-clause-read : goal.returns-clause-read
returns-clause-read c = all_done _ _ _ c.loop-parameter-test.false c.loop-parameter.invariant.so_far

pub returns-clause-passes : goal.returns-clause-passes
returns-clause-passes c = all_fine _ _ c.loop-parameter-test.false c.loop-parameter.invariant.fine

pub returns-clause-built : goal.returns-clause-built
returns-clause-built c =
    let at : c.loop-parameter.parameter-index ≡ length c.args.parameters.now = omega arith in
    rw (at, take-length) at c.loop-parameter.invariant.built
