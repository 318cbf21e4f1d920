use Rattle.std.proofs.Common.{rules, ◌≡◌, ◌∙◌, ap, ap₂, codes}
use Rattle.std.proofs.lemmas.Result.{IfOk-weaker}
use Rattle.clap.specs.Words.{app_of, new_app, with_rule}
use Rattle.clap.specs.Simple.{app_of_fields}
use Rattle.am_options.proofs.command_line.check_form.Goals as goal

pub returns-clause-app : goal.returns-clause-app
returns-clause-app c =
    let named : app_of c.about.result ≡ new_app (codes "check") = ap app_of_fields c.about.ensures ∙ c.new.ensures.app in
    IfOk-weaker c.arg.result _ _ (λ form added. added.shape c.operand.ensures.local ∙ ap₂ with_rule named c.operand.ensures.rule) c.arg.ensures

pub returns-clause-local : goal.returns-clause-local
returns-clause-local c =
    IfOk-weaker c.arg.result _ _
    (λ form added. rw added.globals (search (rules, c.about.ensures, c.new.ensures.local, c.operand.ensures.local)))
    c.arg.ensures
