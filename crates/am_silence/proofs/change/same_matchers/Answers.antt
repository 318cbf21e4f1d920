use Rattle.std.proofs.Common.{◌∙◌}
use Rattle.am_silence.proofs.EqualLemmas.{same_all}
use Rattle.am_silence.proofs.change.same_matchers.Goals as goal

pub returns : goal.returns
returns c = c.eq.ensures ∙ same_all c.args.first.now c.args.second.now
