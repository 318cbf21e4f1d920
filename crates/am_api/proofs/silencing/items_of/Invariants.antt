use Rattle.std.proofs.Common.{◌≡◌, ◌++◌, map, true}
use Rattle.std.specs.Vec.Iter.{into_iter_items}
use Rattle.am_alert.specs.Made.{counts_fit}
use Rattle.am_silence.specs.Changing.{write_of}
use Rattle.am_api.specs.Silences.{silence_items}
use Rattle.am_api.proofs.silencing.items_of.Given as goal

abbrev pub invariant-loop-write : goal.invariant-loop-write
invariant-loop-write l = record {
  so_far : l.items.items ++ silence_items (record l.maker { used = l.used }) (map write_of (into_iter_items l.write-iterator)) ≡ silence_items l.maker (map write_of l.fn.writes.items);
  fit : counts_fit l.items.items ≡ true;
}
