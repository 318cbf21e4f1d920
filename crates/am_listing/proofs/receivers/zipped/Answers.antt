use Rattle.std.proofs.Common.{rules}
use Rattle.std.proofs.lemmas.Iterator.{YieldsList-from_zip, items_from_collect}
use Rattle.std.proofs.lemmas.Iterator.Adapters.{YieldsList-from_vec}
use Rattle.std.proofs.lemmas.Iterator.Consumers.{YieldsList-at}
use Rattle.am_listing.proofs.receivers.zipped.Goals as goal

pub returns : goal.returns
returns g c =
    let one = YieldsList-at c.zip.ensures.first (YieldsList-from_vec c.args.one.items c.into_iter.ensures.rest (search rules)) in
    let other = YieldsList-at c.zip.ensures.second (YieldsList-from_vec c.args.other.items c.into_iter-2.ensures.rest (search rules)) in
    items_from_collect c.collect.result c.collect.ensures.ran (YieldsList-from_zip one other)
