use Rattle.std.proofs.Common.{ap, ◌∙◌}
use Rattle.am_outlet.specs.Attempts.{Desk, number_with}
use Rattle.am_outlet.proofs.Kept.{gone}
use Rattle.am_outlet.proofs.desk.Desk.start.Goals as goal

pub add-requires-clause-absent : goal.add-requires-clause-absent
add-requires-clause-absent c = ap (λ (d : Desk). number_with c.in_ok-key.key d.open_ones) c.drop_key.ensures.desk ∙ gone c.in_ok-key.key _
