use Rattle.std.proofs.Common.{◌≡◌, take}
use Rattle.am_item.specs.Lengths.{total_length}
use Rattle.am_item.proofs.edits.total_len.Given as goal

abbrev pub invariant-loop-kept : goal.invariant-loop-kept
invariant-loop-kept g l = l.total ≡ total_length g.K.Spelled.spelled g.V.Spelled.spelled (take l.kept-index l.entries)
