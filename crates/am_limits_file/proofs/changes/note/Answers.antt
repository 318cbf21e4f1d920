use Rattle.std.proofs.Common.{◌∙◌, sym}
use Rattle.am_limits_file.proofs.ChangesLemmas.{noted-same, noted-set, other_from_ne, same_from_ne, set_of-insert}
use Rattle.am_limits_file.proofs.changes.note.Goals as goal

pub returns-in_ok-insert : goal.returns-in_ok-insert
returns-in_ok-insert c = λ t.
    set_of-insert c.args.changes.now c.insert.new.self c.args.tenant.now c.of-limits.result c.in_ok-insert.ensures.updates.0 t
    ∙ noted-set t c.args.tenant.now c.args.before.now c.args.after.now c.of.result c.of-limits.result _ c.of.ensures
    c.of-limits.ensures (other_from_ne c.of.result c.of-limits.result (sym c.ne.ensures ∙ c.if-ne.true))

pub returns-else-ne : goal.returns-else-ne
returns-else-ne c = λ t.
    noted-same t c.args.tenant.now c.args.before.now c.args.after.now c.of.result c.of-limits.result _ c.of.ensures
    c.of-limits.ensures (same_from_ne c.of.result c.of-limits.result (sym c.ne.ensures ∙ c.if-ne.false))
