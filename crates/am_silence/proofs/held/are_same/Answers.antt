use Rattle.std.proofs.Common.{◌∙◌}
use Rattle.am_silence.proofs.EqualLemmas.{same_one}
use Rattle.am_silence.proofs.held.are_same.Goals as goal

pub returns : goal.returns
returns c = c.eq.ensures ∙ same_one c.args.one.now c.args.other.now
