use Rattle.std.proofs.Common.{◌∙◌, sym}
use Rattle.std.proofs.lemmas.Slice.Eq.{bytes_eq-Decides, slice_eq-Decides}
use Rattle.am_inhibit.proofs.different.shares_sources.Goals as goal

pub returns-then-are_equal-clause-source : goal.returns-then-are_equal-clause-source
returns-then-are_equal-clause-source c = λ on. sym c.as_slice.ensures ∙ c.are_equal.ensures c.if-are_equal.true ∙ c.as_slice-2.ensures

pub returns-then-are_equal-clause-equal : goal.returns-then-are_equal-clause-equal
returns-then-are_equal-clause-equal c = λ on.
    let one = c.as_slice-then-are_equal in
    let other = c.as_slice-then-are_equal-2 in
    sym one.ensures ∙ (slice_eq-Decides bytes_eq-Decides one.result.now other.result.now c.eq.result c.eq.ensures).0 on ∙ other.ensures
