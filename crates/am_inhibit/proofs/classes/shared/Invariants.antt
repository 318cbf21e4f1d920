use Rattle.std.proofs.Common.{◌≡◌, map}
use Rattle.std.specs.Rc.{rc_slice_items}
use Rattle.am_inhibit.proofs.classes.shared.Given as goal

abbrev pub invariant-loop-list : goal.invariant-loop-list
invariant-loop-list l = map rc_slice_items l.shared.items ≡ map (λ list. list.items) l.yielded
