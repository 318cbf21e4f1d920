use Rattle.std.proofs.Common.{rules, ◌∙◌, ap₂}
use Rattle.std.proofs.lemmas.Result.{IfOk-weaker}
use Rattle.clap.specs.Words.{with_rule}
use Rattle.am_options.proofs.command_line.serve_form.Goals as goal

pub returns-clause-app : goal.returns-clause-app
returns-clause-app c =
    let addressed = c.in_ok-arg.ensures.shape c.option_or.ensures.local ∙ ap₂ with_rule c.in_ok-form_of.ensures.app c.option_or.ensures.rule in
    let ported = c.in_ok-arg-2.ensures.shape c.option.ensures.local ∙ ap₂ with_rule addressed c.option.ensures.rule in
    let administered = c.in_ok-arg-3.ensures.shape c.option-2.ensures.local ∙ ap₂ with_rule ported c.option-2.ensures.rule in
    let counted = c.in_ok-arg-4.ensures.shape c.option-3.ensures.local ∙ ap₂ with_rule administered c.option-3.ensures.rule in
    let limited = c.in_ok-arg-5.ensures.shape c.option-4.ensures.local ∙ ap₂ with_rule counted c.option-4.ensures.rule in
    let logged = c.in_ok-arg-6.ensures.shape c.option_or-2.ensures.local ∙ ap₂ with_rule limited c.option_or-2.ensures.rule in
    IfOk-weaker c.arg-7.result _ _ (λ form added. added.shape c.flag.ensures.local ∙ ap₂ with_rule logged c.flag.ensures.rule) c.arg-7.ensures

pub returns-clause-local : goal.returns-clause-local
returns-clause-local c =
    IfOk-weaker c.arg-7.result _ _
    (λ form added. rw (added.globals, c.in_ok-arg-6.ensures.globals, c.in_ok-arg-5.ensures.globals, c.in_ok-arg-4.ensures.globals, c.in_ok-arg-3.ensures.globals, c.in_ok-arg-2.ensures.globals, c.in_ok-arg.ensures.globals)
    (search (rules, c.in_ok-form_of.ensures.local, c.option_or.ensures.local, c.option.ensures.local, c.option-2.ensures.local, c.option-3.ensures.local, c.option-4.ensures.local, c.option_or-2.ensures.local, c.flag.ensures.local)))
    c.arg-7.ensures
