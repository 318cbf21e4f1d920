use Rattle.std.proofs.Common.{◌∙◌, sym}
use Rattle.am_limits_file.proofs.ChangesLemmas.{changed, same_from_ne}
use Rattle.am_limits_file.proofs.reading.LimitsFile.changes.Goals as goal

pub returns-clause-changes : goal.returns-clause-changes
returns-clause-changes c = λ t.
    changed t c.args.self.now c.args.next.now c.in_ok-before.before c.in_ok-after.after c.as_slice.result.now
    c.as_slice-2.result.now c.new-changes.result.entries c.note_all.new.changes.entries c.note_all-2.new.changes.entries
    (c.in_ok-before.ensures t) (c.in_ok-after.ensures t) c.as_slice.ensures c.as_slice-2.ensures
    c.new-changes.ensures.empty (c.in_ok-note_all.ensures t) (c.in_ok-note_all-2.ensures t)
    (same_from_ne c.args.self.now.default c.args.next.now.default (sym c.ne.ensures ∙ c.if-ne.false))
