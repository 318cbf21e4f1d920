use Rattle.std.proofs.Common.{◌≡◌}
use Rattle.serde_json.specs.View.{members_view}
use Rattle.am_text.proofs.OutcomeLemmas.{with_front}
use Rattle.am_limits_file.specs.LimitsFiles.{tenants_of}
use Rattle.am_limits_file.proofs.reading.tenants_of.Given as goal

abbrev pub invariant-loop-name : goal.invariant-loop-name
invariant-loop-name l =
    with_front l.tenants.items (tenants_of l.place l.default (members_view l.name-iterator))
    ≡ tenants_of l.place l.default (members_view l.members.entries)
