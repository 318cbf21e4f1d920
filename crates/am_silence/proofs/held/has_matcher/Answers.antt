use Rattle.std.proofs.Common.{◌∙◌}
use Rattle.am_silence.proofs.EqualLemmas.{same_any}
use Rattle.am_silence.proofs.held.has_matcher.Goals as goal

pub returns : goal.returns
returns c = c.contains.ensures.value ∙ same_any c.args.matchers.now c.args.wanted.now
