use Rattle.am_match.proofs.PrintingLemmas.{written-one}
use Rattle.am_match.proofs.printing.push_matcher.Goals as goal

pub returns-clause-text : goal.returns-clause-text
returns-clause-text c =
    written-one c.args.matcher.now _ _ _ _ c.name.ensures.label (rw c.name.ensures.name at c.in_ok-push_str.ensures.bytes)
    (rw (c.symbol_of.ensures, c.operator.ensures) at c.in_ok-push_str-2.ensures.bytes)
    (rw c.value.ensures.value at c.in_ok-push_value.ensures)
