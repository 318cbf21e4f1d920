use Rattle.std.proofs.Common.{◌≡◌, drop}
use Rattle.am_muting.specs.Asked.{active_in}
use Rattle.am_muting.proofs.muting.is_active_in.Given as goal

abbrev pub invariant-loop-kept : goal.invariant-loop-kept
invariant-loop-kept l = active_in l.moment (drop l.kept-index l.silences) ≡ active_in l.moment l.silences
