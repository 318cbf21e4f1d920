use Rattle.std.proofs.Common.{string_bytes}
use Rattle.am_pattern.proofs.KeptLemmas.{kept-lookup}
use Rattle.am_pattern.proofs.cache.PatternCache.holds.Goals as goal

pub returns : goal.returns
returns c =
    rw (← c.self.view_is, kept-lookup string_bytes c.args.pattern.now c.self.inside.built.entries) c.contains.ensures
