use Rattle.std.proofs.Common.{◌≡◌, ◌∙◌, Bor, List, ℕ, ap, map, not, sym}
use Rattle.std.specs.Str.{bytes_eq}
use Rattle.std.proofs.lemmas.Simd.{map-map}
use Rattle.am_pattern.specs.Taking.{takes}
use Rattle.am_match.specs.Matchers.{MatcherText}
use Rattle.am_match.specs.Meaning.{passes}
use Rattle.am_match.specs.declared.matcher.Operator.TheVariants.{NotEqual, NotMatch}
use Rattle.am_match.proofs.matcher.Matcher.passes_each.Goals as goal

pub returns-in_ok-turned-in-NotEqual-clause-values : goal.returns-in_ok-turned-in-NotEqual-clause-values
returns-in_ok-turned-in-NotEqual-clause-values c =
    let values = c.args.values.now in
    let operator : c.args.self.now.operator ≡ NotEqual = sym (ap (λ (m : MatcherText). m.operator) c.self.view_is) ∙ c.in-NotEqual.is in
    c.in_ok-turned-in-NotEqual.ensures
    ∙ ap (map not) (c.deref.ensures.value ∙ c.in_ok-equal-in-NotEqual.ensures)
    ∙ map-map not (λ (value : Bor (List ℕ)). bytes_eq c.value-in-NotEqual.result.now value.now) values
    ∙ ap (λ wanted. map (λ (value : Bor (List ℕ)). not (bytes_eq wanted value.now)) values) c.value-in-NotEqual.ensures.value
    ∙ ap (λ op. map (λ (value : Bor (List ℕ)). passes op c.args.self.now.value value.now) values) (sym operator)

pub returns-in_ok-turned-in-NotMatch-clause-values : goal.returns-in_ok-turned-in-NotMatch-clause-values
returns-in_ok-turned-in-NotMatch-clause-values c =
    let values = c.args.values.now in
    let operator : c.args.self.now.operator ≡ NotMatch = sym (ap (λ (m : MatcherText). m.operator) c.self.view_is) ∙ c.in-NotMatch.is in
    c.in_ok-turned-in-NotMatch.ensures
    ∙ ap (map not) (c.deref-in-NotMatch.ensures.value ∙ c.in_ok-taken-in-NotMatch.ensures.values)
    ∙ map-map not (λ (value : Bor (List ℕ)). takes c.value-in-NotMatch.result.now value.now) values
    ∙ ap (λ wanted. map (λ (value : Bor (List ℕ)). not (takes wanted value.now)) values) c.value-in-NotMatch.ensures.value
    ∙ ap (λ op. map (λ (value : Bor (List ℕ)). passes op c.args.self.now.value value.now) values) (sym operator)
