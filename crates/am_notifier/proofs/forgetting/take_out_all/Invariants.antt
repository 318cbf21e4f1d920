use Rattle.std.proofs.Common.{◌≡◌, ℕ, List}
use Rattle.std.specs.Vec.Iter.{into_iter_items}
use Rattle.am_agenda.specs.Planned.{plan_of}
use Rattle.am_notifier.specs.Forgetting.{plan_left}
use Rattle.am_notifier.proofs.forgetting.take_out_all.Given as goal

abbrev pub invariant-loop-thing : goal.invariant-loop-thing
invariant-loop-thing l =
    (t : List ℕ) → plan_left t (into_iter_items l.thing-iterator) (plan_of t l.agenda) ≡ plan_left t l.fn.gone.items (plan_of t l.fn.agenda)
