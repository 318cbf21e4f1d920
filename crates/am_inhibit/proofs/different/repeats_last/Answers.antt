use Rattle.std.proofs.Common.{◌-◌, ◌∙◌, Bor, length, map, subst, sym}
use Rattle.std.specs.List.{Contains}
use Rattle.am_config.specs.declared.parts.Rule.{Rule}
use Rattle.am_inhibit.proofs.DifferentLemmas.{equal_rules, found_there}
use Rattle.am_inhibit.proofs.different.repeats_last.Goals as goal

pub returns-then-shares_sources : goal.returns-then-shares_sources
returns-then-shares_sources c = λ on.
    let last = c.in-Some.last.now in
    let rule = c.args.rule.now in
    let shared = c.shares_sources.ensures in
    let target = sym c.as_slice.ensures ∙ c.are_equal.ensures on ∙ c.as_slice-then-shares_sources.ensures in
    subst (Contains (map (λ (r : Bor Rule). r.now) c.args.rules.now))
    (equal_rules last.now rule (shared.source c.if-shares_sources.true) target (shared.equal c.if-shares_sources.true))
    (found_there c.args.rules.now (length c.args.rules.now - 1) last (sym c.in-Some.ensures.value))
