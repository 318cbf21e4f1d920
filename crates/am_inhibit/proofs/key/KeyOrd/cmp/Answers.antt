use Rattle.std.proofs.Common.{◌∙◌}
use Rattle.am_inhibit.proofs.KeyLemmas.{borrowed_cmp}
use Rattle.am_inhibit.proofs.key.KeyOrd.cmp.Goals as goal

pub returns : goal.returns
returns c =
    rw (← c.self.view_is, ← c.other.view_is)
    (c.cmp.ensures ∙ rw (c.as_slice.ensures.value, c.as_slice-2.ensures.value) (borrowed_cmp c.self.inside.values.items c.other.inside.values.items))
