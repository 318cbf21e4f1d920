use Rattle.std.proofs.Common.{◌≡◌, map}
use Rattle.std.specs.List.{filter_map}
use Rattle.am_group.specs.Deeds.{deed}
use Rattle.am_telling.specs.Tellings.{telling_of}
use Rattle.am_telling.proofs.telling.tell_webhooks.Given as goal

abbrev pub invariant-loop-act : goal.invariant-loop-act
invariant-loop-act l =
    l.tellings.items ≡ filter_map (telling_of l.flushed.receiver.now l.flushed.group.now l.flushed.settings l.flushed.moment) (map deed l.yielded)
