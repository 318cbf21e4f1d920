use Rattle.std.proofs.Common.{◌≡◌, ◌++◌, drop}
use Rattle.am_telling.specs.Tellings.{keys_from}
use Rattle.am_telling.proofs.telling.webhook_keys.Given as goal

abbrev pub invariant-loop-place : goal.invariant-loop-place
invariant-loop-place l =
    l.keys.items ++ keys_from l.receiver.name l.group l.place (drop l.place l.receiver.webhooks)
    ≡ keys_from l.receiver.name l.group 0 l.receiver.webhooks
