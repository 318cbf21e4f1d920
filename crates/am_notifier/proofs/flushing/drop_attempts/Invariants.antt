use Rattle.std.proofs.Common.{◌≡◌, ℕ, List}
use Rattle.std.specs.Vec.Iter.{into_iter_items}
use Rattle.am_agenda.specs.Planned.{plan_of}
use Rattle.am_tenant.specs.Names.{same}
use Rattle.am_notifier.proofs.Flushes.{dropped}
use Rattle.am_notifier.proofs.flushing.drop_attempts.Given as goal

abbrev pub invariant-loop-key : goal.invariant-loop-key
invariant-loop-key l =
    (t : List ℕ) → dropped (same t l.tenant) (into_iter_items l.key-iterator) (plan_of t l.agenda) ≡ dropped (same t l.tenant) l.fn.keys.items (plan_of t l.fn.agenda)
