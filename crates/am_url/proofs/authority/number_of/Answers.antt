use Rattle.std.proofs.Common.{◌∙◌, sym, refl}
use Rattle.am_url.proofs.Numbers.{is_number-no_parse}
use Rattle.am_url.proofs.authority.number_of.Goals as goal

pub returns-in-Err : goal.returns-in-Err
returns-in-Err c =
    let digits = sym c.are_digits.ensures ∙ c.if-not-are_digits.false in
    let parsed = c.in-Err.ensures.value.0 in
    rw (is_number-no_parse c.args.least c.args.most c.args.digits.now c.in-Err.field-0 digits c.ranges.most.fits parsed) refl
