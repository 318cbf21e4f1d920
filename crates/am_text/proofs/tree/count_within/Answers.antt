use Rattle.std.proofs.Common.{◌-◌, arith}
use Rattle.am_text.proofs.TreeLemmas.{counted_set}
use Rattle.am_text.proofs.tree.count_within.Goals as goal

pub returns : goal.returns
returns g c =
    counted_set c.args.nodes.now.items c.args.number c.index_mut.result.now (c.len.result - c.args.number - 1)
    (omega (arith, c.len.ensures, c.requires)) c.index_mut.ensures.value
