use Rattle.std.proofs.Common.{Bor, ◌∙◌, ap, map, rules}
use Rattle.std.proofs.lemmas.Fn.{filter_same}
use Rattle.am_labels.specs.declared.Label.{Label}
use Rattle.am_payload.specs.Webhook.{is_among}
use Rattle.am_payload.proofs.Among.{seen-filter}
use Rattle.am_payload.proofs.common.retain_among.Goals as goal

pub returns : goal.returns
returns c =
    ap (map (λ (label : Bor Label). label.now)) (filter_same _ (λ (label : Bor Label). is_among c.args.labels.now label.now) _ (λ x b f' k. search rules) _ _ c.retain.ensures.filtered)
    ∙ seen-filter (λ (label : Bor Label). label.now) (is_among c.args.labels.now) c.args.kept.now.items
