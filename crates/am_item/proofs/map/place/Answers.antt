use Rattle.std.proofs.Common.{rules}
use Rattle.std.proofs.lemmas.Fn.{always_returns_same}
use Rattle.am_item.proofs.Found.{place_from}
use Rattle.am_item.proofs.map.place.Goals as goal

-- the closure compares an entry's key with the key
pub returns : goal.returns
returns g c =
    place_from g.met.K.Ord.total c.args.key.now c.args.entries.now c.binary_search_by.result c.requires c.binary_search_by.ensures.bound
    (c.binary_search_by.ensures.position (λ e. g.K.Ord.cmp e.0 c.args.key.now) (always_returns_same _ _ _ (λ a r f called. search rules)))
