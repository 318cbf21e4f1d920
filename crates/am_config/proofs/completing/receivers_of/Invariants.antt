use Rattle.std.proofs.Common.{◌≡◌, drop}
use Rattle.am_config.specs.Completing.{receivers_of}
use Rattle.am_text.proofs.OutcomeLemmas.{with_front}
use Rattle.am_config.proofs.completing.receivers_of.Given as goal

abbrev pub invariant-loop-draft : goal.invariant-loop-draft
invariant-loop-draft l = with_front l.receivers.items (receivers_of (drop l.draft-index l.drafts)) ≡ receivers_of l.drafts
