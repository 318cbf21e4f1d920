use Rattle.std.proofs.Common.{◌∙◌, not, rules, sym, tests}
use Rattle.std.proofs.lemmas.Iterator.{YieldsList-from_slice}
use Rattle.std.proofs.lemmas.Iterator.Search.{any_from_yields_List}
use Rattle.am_alert.specs.HeldAlert.{held_alert}
use Rattle.am_group.specs.Notices.{is_told}
use Rattle.am_group.proofs.Telling.{any-map}
use Rattle.am_group.proofs.notice.some_new.Goals as goal

pub returns : goal.returns
returns c =
    any_from_yields_List (λ alert. not (is_told c.args.told.now alert.labels.now)) _ _ _ c.any.ensures.ran (YieldsList-from_slice c.args.alerts.now (cc)) (λ x b q k. search (rules, tests))
    ∙ sym (any-map held_alert (λ alert. not (is_told c.args.told.now alert.value.labels)) c.args.alerts.now)
