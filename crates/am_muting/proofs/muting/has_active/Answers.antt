use Rattle.std.proofs.Common.{◌==◌, ◌∙◌, ap, length, not}
use Rattle.am_silence.proofs.HeldLemmas.{active_held}
use Rattle.am_muting.proofs.muting.has_active.Goals as goal

pub returns : goal.returns
returns c =
    c.is_active_in.ensures
    ∙ ap (λ active. not (length active == 0)) (active_held c.args.moment c.silences.result.now c.args.held.now c.silences.ensures.items)
