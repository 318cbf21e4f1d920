use Rattle.std.proofs.Common.{sym, ◌∙◌}
use Rattle.am_match.proofs.ReadingLemmas.{trim_end-pop, trim_end-kept}
use Rattle.am_match.proofs.reading.trim_spaces.Goals as goal

pub space-preserved : goal.space-preserved
space-preserved c =
    c.space.invariant ∙ trim_end-pop _ _ _ _ c.pop.ensures.items (rw c.deref.ensures.value at c.in-Some.ensures.value) c.if-c-ne32.false

pub returns-then-c-ne32 : goal.returns-then-c-ne32
returns-then-c-ne32 c =
    sym (c.space.invariant ∙ trim_end-kept _ _ (rw c.deref.ensures.value at c.in-Some.ensures.value) c.if-c-ne32.true)
