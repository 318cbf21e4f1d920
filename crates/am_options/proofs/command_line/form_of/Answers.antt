use Rattle.std.proofs.Common.{rules, ◌≡◌, ◌∙◌, ap, ap₂}
use Rattle.std.proofs.lemmas.Result.{IfOk-weaker}
use Rattle.clap.specs.Words.{app_of, new_app, with_rule}
use Rattle.clap.specs.Simple.{app_of_fields}
use Rattle.am_options.proofs.command_line.form_of.Goals as goal

pub returns-clause-app : goal.returns-clause-app
returns-clause-app c =
    let named : app_of c.about.result ≡ new_app c.args.name.now = ap app_of_fields c.about.ensures ∙ c.new.ensures.app in
    let cached = c.in_ok-arg.ensures.shape c.option_or.ensures.local ∙ ap₂ with_rule named c.option_or.ensures.rule in
    let keyed = c.in_ok-arg-2.ensures.shape c.option.ensures.local ∙ ap₂ with_rule cached c.option.ensures.rule in
    let ringed = c.in_ok-arg-3.ensures.shape c.option_or-2.ensures.local ∙ ap₂ with_rule keyed c.option_or-2.ensures.rule in
    let started = c.in_ok-arg-4.ensures.shape c.option-2.ensures.local ∙ ap₂ with_rule ringed c.option-2.ensures.rule in
    IfOk-weaker c.arg-5.result _ _ (λ form added. added.shape c.option-3.ensures.local ∙ ap₂ with_rule started c.option-3.ensures.rule) c.arg-5.ensures

pub returns-clause-local : goal.returns-clause-local
returns-clause-local c =
    IfOk-weaker c.arg-5.result _ _
    (λ form added. rw (added.globals, c.in_ok-arg-4.ensures.globals, c.in_ok-arg-3.ensures.globals, c.in_ok-arg-2.ensures.globals, c.in_ok-arg.ensures.globals)
    (search (rules, c.about.ensures, c.new.ensures.local, c.option_or.ensures.local, c.option.ensures.local, c.option_or-2.ensures.local, c.option-2.ensures.local, c.option-3.ensures.local)))
    c.arg-5.ensures
