use Rattle.std.proofs.Common.{◌≡◌}
use Rattle.serde_json.specs.View.{members_view}
use Rattle.am_limits_file.specs.LimitsFiles.{known_among}
use Rattle.am_limits_file.proofs.reading.known_among.Given as goal

abbrev pub invariant-loop-key : goal.invariant-loop-key
invariant-loop-key l =
    known_among l.place l.level (members_view l.key-iterator) ≡ known_among l.place l.level (members_view l.members.entries)
