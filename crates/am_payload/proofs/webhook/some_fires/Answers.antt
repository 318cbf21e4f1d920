use Rattle.std.proofs.Common.{◌∙◌, rules, sym, tests}
use Rattle.std.proofs.lemmas.Iterator.{YieldsList-from_slice}
use Rattle.std.proofs.lemmas.Iterator.Search.{any_from_yields_List}
use Rattle.am_payload.specs.Told.{told_alert}
use Rattle.am_payload.specs.declared.webhook.ToldAlert.{ToldAlert}
use Rattle.am_payload.proofs.Among.{seen-any}
use Rattle.am_payload.proofs.webhook.some_fires.Goals as goal

pub returns : goal.returns
returns c =
    any_from_yields_List (λ (told : ToldAlert). told.fires) _ _ _ c.any.ensures.ran (YieldsList-from_slice c.args.alerts.now (cc)) (λ x b q k. search (rules, tests))
    ∙ sym (seen-any told_alert (λ told. told.1) c.args.alerts.now)
