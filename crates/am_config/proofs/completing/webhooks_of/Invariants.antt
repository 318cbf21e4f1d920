use Rattle.std.proofs.Common.{◌≡◌, drop}
use Rattle.am_config.specs.Completing.{webhooks_of}
use Rattle.am_text.proofs.OutcomeLemmas.{with_front}
use Rattle.am_config.proofs.completing.webhooks_of.Given as goal

abbrev pub invariant-loop-draft : goal.invariant-loop-draft
invariant-loop-draft l = with_front l.webhooks.items (webhooks_of (drop l.draft-index l.drafts)) ≡ webhooks_of l.drafts
