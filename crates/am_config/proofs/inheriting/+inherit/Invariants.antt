use Rattle.std.proofs.Common.{◌≡◌, ◌+◌, ◌++◌, ◌≤◌, ◌^◌, length}
use Rattle.am_draft.specs.Forests.{IsForest, forest_of}
use Rattle.am_config.specs.Inheriting.{inherited}
use Rattle.am_config.proofs.inheriting.+inherit.Given as goal

abbrev pub decreases-inherit : goal.decreases-inherit
decreases-inherit l = length l.owns.now

abbrev pub invariant-sibling : goal.invariant-sibling
invariant-sibling l = record {
  forest : IsForest l.rest;
  few : l.number + length l.rest ≤ 2 ^ 62;
  shorter : length l.rest ≤ length l.owns;
  settings : l.settings.items ++ inherited l.number l.around (forest_of l.rest) ≡ l.fn.settings.items ++ inherited l.first l.around (forest_of l.owns);
}

abbrev pub decreases-sibling : goal.decreases-sibling
decreases-sibling l = length l.rest
