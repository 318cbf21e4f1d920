use Rattle.std.proofs.Common.{◌∙◌, ap, filter, rules, not}
use Rattle.std.proofs.lemmas.Fn.{filter_same}
use Rattle.am_report.specs.Mail.{is_named}
use Rattle.am_report.proofs.mail.Mail.forget.Goals as goal

pub returns : goal.returns
returns c =
    filter_same _ (λ letter. not (is_named c.args.name.now letter)) _ (λ x b f' k. search rules) _ _
    c.retain.ensures.filtered
    ∙ ap (filter (λ letter. not (is_named c.args.name.now letter))) c.self.view_is
