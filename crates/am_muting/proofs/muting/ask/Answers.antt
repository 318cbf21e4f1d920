use Rattle.std.proofs.lemmas.List.Elements.{Contains-append_left, Contains-append_right}
use Rattle.std.proofs.lemmas.Result.{err_from_is_err_and}
use Rattle.am_silence.specs.Held.{active_among, matchers_in}
use Rattle.am_inhibit.specs.Inhibits.{rule_matchers}
use Rattle.am_pattern.proofs.AskingLemmas.{stays-refl}
use Rattle.am_muting.proofs.Failures.{adds_by, unanswered_by}
use Rattle.am_muting.proofs.muting.ask.Goals as goal

pub returns-in_err-silences-clause-failure : goal.returns-in_err-silences-clause-failure
returns-in_err-silences-clause-failure c =
    let p = err_from_is_err_and c.from_residual.result c.from_residual.ensures.1 in
    rw (p.1, p.2)
    (unanswered_by (matchers_in (active_among c.args.moment c.args.held.now)) _ _ _ _ (λ text there. Contains-append_right _ _ text there)
    (rw c.new.ensures at c.in_err-silences.ensures.failure))

pub returns-in_err-inhibited-clause-failure : goal.returns-in_err-inhibited-clause-failure
returns-in_err-inhibited-clause-failure c =
    let p = err_from_is_err_and c.from_residual-in_err-inhibited.result c.from_residual-in_err-inhibited.ensures.1 in
    rw (p.1, p.2)
    (unanswered_by (rule_matchers c.args.config.now.rules) _ _ _ _ (λ text there. Contains-append_left _ _ text there) c.in_err-inhibited.ensures.failure)

pub returns-in_err-silences-clause-adds : goal.returns-in_err-silences-clause-adds
returns-in_err-silences-clause-adds c =
    rw (err_from_is_err_and c.from_residual.result c.from_residual.ensures.1).1
    (adds_by (matchers_in (active_among c.args.moment c.args.held.now)) _ _ _ _ _ (stays-refl _) (λ text there. Contains-append_right _ _ text there)
    (rw c.new.ensures at c.in_err-silences.ensures.failure))

pub returns-in_err-inhibited-clause-adds : goal.returns-in_err-inhibited-clause-adds
returns-in_err-inhibited-clause-adds c =
    rw (err_from_is_err_and c.from_residual-in_err-inhibited.result c.from_residual-in_err-inhibited.ensures.1).1
    (adds_by (rule_matchers c.args.config.now.rules) _ _ _ _ _ c.in_ok-silences.ensures.asked (λ text there. Contains-append_left _ _ text there)
    c.in_err-inhibited.ensures.failure)
