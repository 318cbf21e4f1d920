use Rattle.std.proofs.Common.{◌≡◌, ◌==◌, true, refl, rules}
use Rattle.am_telling.proofs.Shown.{all_kept, kept}
use Rattle.am_telling.proofs.telling.shown.Goals.{then-most-eq0-via-then-most-eq0, then-most-eq0-via-else-most-eq0+then-alerts-most}
use Rattle.am_telling.proofs.telling.shown.Goals as goal

pub returns-then-most-eq0-clause-shown : goal.returns-then-most-eq0-clause-shown
returns-then-most-eq0-clause-shown c = elim c.then-most-eq0.branch [
  | then-most-eq0-via-then-most-eq0 w ↦ (let none : (c.args.most == 0) ≡ true = search rules in rw none refl)
  | then-most-eq0-via-else-most-eq0+then-alerts-most w ↦ all_kept c.args.most c.args.alerts.now (search rules) (search rules)
]

pub returns-clause-shown : goal.returns-clause-shown
returns-clause-shown c = kept c.args.most c.args.alerts.now (search rules)
