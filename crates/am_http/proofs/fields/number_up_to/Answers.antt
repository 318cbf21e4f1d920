use Rattle.am_http.proofs.NumberLemmas.{number-more}
use Rattle.am_http.proofs.fields.number_up_to.Goals as goal

pub loop-digit-preserved : goal.loop-digit-preserved
loop-digit-preserved c =
    rw (c.min-value.ensures, c.from.ensures, c.loop-digit.invariant) (number-more c.args.digits.now c.loop-digit.digit-index c.args.most c.requires.digits c.loop-digit-test.true)
