use Rattle.std.proofs.Common.{◌≡◌, ◌∙◌, ap, ap₂, true, codes}
use Rattle.std.proofs.lemmas.Result.{IfOk-weaker}
use Rattle.clap.specs.Words.{App, app_of, new_app, with_subcommand}
use Rattle.clap.specs.Simple.{app_of_fields}
use Rattle.am_options.specs.CommandLine.{app_named, serve, top}
use Rattle.am_options.proofs.command_line.form.Goals as goal

-- a command that wants a subcommand
abbrev wanting : App → App
wanting a = record a { top = record a.top { subcommand_required = true } }

-- a command that has a version
abbrev versioned : App → App
versioned a = record a { top = record a.top { has_version = true } }

pub returns : goal.returns
returns c =
    let named_is : app_of c.about.result ≡ new_app (codes "amring") = ap app_of_fields c.about.ensures ∙ c.new.ensures.app in
    let versioned_is : app_of c.version.result ≡ versioned (new_app (codes "amring")) = ap app_of_fields c.version.ensures ∙ ap versioned named_is in
    let top_is : app_of c.subcommand_required.result ≡ top = ap app_of_fields c.subcommand_required.ensures ∙ ap wanting versioned_is in
    let running_is : app_of c.in_ok-subcommand.field-0 ≡ with_subcommand top (app_named (codes "run")).top =
    c.in_ok-subcommand.ensures.shape c.in_ok-run.ensures.local ∙ ap₂ with_subcommand top_is (ap (λ (a : App). a.top) c.in_ok-run.ensures.app) in
    let serving_is : app_of c.in_ok-subcommand-2.field-0 ≡ with_subcommand (with_subcommand top (app_named (codes "run")).top) serve.top =
    c.in_ok-subcommand-2.ensures.shape c.in_ok-serve.ensures.local
    ∙ ap₂ with_subcommand running_is (ap (λ (a : App). a.top) c.in_ok-serve.ensures.app) in
    IfOk-weaker c.subcommand-3.result _ _
    (λ form added. added.shape c.in_ok-check.ensures.local ∙ ap₂ with_subcommand serving_is (ap (λ (a : App). a.top) c.in_ok-check.ensures.app)) c.subcommand-3.ensures
