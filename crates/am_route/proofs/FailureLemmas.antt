-- The patterns of routes are patterns.
use Rattle.std.proofs.Common.{◌≡◌, ◌∙◌, suc, Bool, true, false, List, All, [], ◌∷◌, ◌++◌, length-append, refl, sym, subst, arith}
use Rattle.std.proofs.lemmas.List.{get_or_append_left}
use Rattle.std.proofs.lemmas.List.Elements.{All-append, All-cons, All-head, All-nil, All-tail}
use Rattle.std.specs.List.{Contains}
use Rattle.std.specs.Prelude.{Result, Ok, Err, IfErr, if◌then◌else◌}
use Rattle.std.specs.Result.{IsErrAnd}
use Rattle.am_text.specs.declared.failure.Failure.{Failure}
use Rattle.am_text.specs.declared.failure.Failure.TheVariants.{Refused, OutOfMemory}
use Rattle.am_pattern.specs.Asking.{Asked, Grows, Stays}
use Rattle.am_pattern.specs.Cache.{Cache}
use Rattle.am_pattern.specs.Taking.{IsPattern}
use Rattle.am_pattern.specs.declared.refusal.PatternRefusal.{PatternRefusal}
use Rattle.am_pattern.proofs.AskingLemmas.{stays-trans}
use Rattle.am_match.specs.Asking.{IsFailureAmong}
use Rattle.am_match.specs.Matchers.{MatcherText, is_on_pattern, patterns_of}
use Rattle.am_text.specs.declared.tree.Node.{Node}
use Rattle.am_config.specs.declared.parts.Route.{Route}
use Rattle.am_config.specs.Configured.{HasPattern}
use Rattle.am_route.specs.Asked.{route_matchers}

-- the patterns of matchers that each have theirs
pub patterns_had : (ms : List MatcherText) → All HasPattern ms → All IsPattern (patterns_of ms)
patterns_had [] fine = All-nil IsPattern
patterns_had (m ∷ ms) fine =
    let rest = patterns_had ms (All-tail HasPattern m ms fine) in
    (elim (is_on_pattern m.operator) as (λ (b : Bool). is_on_pattern m.operator ≡ b → All IsPattern (if b then m.value ∷ patterns_of ms else patterns_of ms)) [
      | true ↦ λ on. All-cons IsPattern m.value (patterns_of ms) (All-head HasPattern m ms fine on) rest
      | false ↦ λ on. rest
    ]) refl

-- the matchers of routes have their patterns, where those of each route have
pub route_patterns : (nodes : List (Node Route)) → All (λ (node : Node Route). All HasPattern node.item.matchers) nodes → All HasPattern (route_matchers nodes)
route_patterns [] fine = All-nil HasPattern
route_patterns (node ∷ nodes) fine =
    All-append HasPattern node.item.matchers (route_matchers nodes) (All-head (λ (other : Node Route). All HasPattern other.item.matchers) node nodes fine)
    (route_patterns nodes (All-tail (λ (other : Node Route). All HasPattern other.item.matchers) node nodes fine))
