use Rattle.std.proofs.Common.{◌∙◌, ◌++◌, ◌∷◌, [], Bool, Bor, List, ℕ, ap, get_or, map, sym, take}
use Rattle.std.proofs.lemmas.List.{map_more, take_all}
use Rattle.am_pattern.specs.Kept.{Compiled}
use Rattle.am_pattern.specs.Taking.{has_match}
use Rattle.am_pattern.proofs.building.Built.have_matches.Goals as goal

pub loop-value-preserved : goal.loop-value-preserved
loop-value-preserved c =
    let none : Bor (List ℕ) = record { ref_ptr = (0, 0); now = [] } in
    let value = get_or c.args.values.now c.loop-value.value-index none in
    let pattern = c.loop-value.invariant.pattern ∙ c.in_ok-matcher.ensures.pattern in
    let test : Bor (List ℕ) → Bool = λ value. has_match c.args.self.now.source value.now in
    let here = c.is_found.ensures.found c.self.inside.regex pattern c.self.invariant.0 c.self.invariant.1
    ∙ ap (λ (built : Compiled). has_match built.source value.now) c.self.view_is in
    record {
      pattern = c.is_found.ensures.same ∙ c.loop-value.invariant.pattern;
      found =
          c.in_ok-push.ensures.items
          ∙ ap (λ items. items ++ c.is_found.result ∷ []) c.loop-value.invariant.found
          ∙ ap (λ found. map test (take c.loop-value.value-index c.args.values.now) ++ found ∷ []) here
          ∙ sym (map_more test c.args.values.now c.loop-value.value-index none c.loop-value-test.true);
    }

pub returns : goal.returns
returns c =
    c.loop-value.invariant.found
    ∙ ap (map (λ value. has_match c.args.self.now.source value.now)) (take_all c.loop-value.value-index c.args.values.now c.loop-value-test.false)
