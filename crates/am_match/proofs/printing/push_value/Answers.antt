use Rattle.am_match.proofs.PrintingLemmas.{written-value}
use Rattle.am_match.proofs.printing.push_value.Goals as goal

pub returns : goal.returns
returns c =
    written-value c.args.value.now _ _ _ _ c.in_ok-push.ensures.bytes c.in_ok-push_characters.ensures c.in_ok-push-2.ensures.bytes
