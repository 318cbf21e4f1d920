use Rattle.std.proofs.Common.{[]}
use Rattle.std.specs.List.Sorted.{IsStrictlySortedBy}
use Rattle.am_timer.specs.Queue.{timers_of}
use Rattle.am_timer.proofs.Alone.{alone}
use Rattle.am_timer.proofs.laws.each_tenant_is_answered_alone.Goals as goal

pub returns : goal.returns
unfolding timers_of IsStrictlySortedBy
returns c = λ calls t. alone t calls [] tt
