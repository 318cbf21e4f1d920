use Rattle.am_text.proofs.OrderLemmas.{tie}
use Rattle.am_text.proofs.text.TextOrd.cmp.Goals as goal

pub returns-clause-tie : goal.returns-clause-tie
returns-clause-tie c =
    tie c.args.self.now c.args.other.now c.as_str.result.now c.as_str-2.result.now c.cmp.result c.as_str.ensures c.as_str-2.ensures c.cmp.ensures
