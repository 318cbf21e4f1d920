-- The matchers on patterns of a configuration have patterns.
use Rattle.std.proofs.Common.{◌≡◌, ℕ, List, [], ◌∷◌, ◌++◌, All, Bool, true, false, not, ◌&&◌, Option, None, Some, chars, map, refl, sym, ◌∙◌, inl, inr, true≢false}
use Rattle.std.specs.Prelude.{if◌then◌else◌, is_ok}
use Rattle.std.specs.List.{list_all, list_any}
use Rattle.std.proofs.lemmas.Bool.{and_parts, cases_Bool, not-false, or_parts}
use Rattle.std.proofs.lemmas.List.Elements.{All-append, All-cons, All-head, All-nil, All-tail}
use Rattle.std.proofs.lemmas.List.Folds.{list_all-append}
use Rattle.am_text.specs.declared.tree.Node.{Node}
use Rattle.am_pattern.specs.Taking.{IsPattern, is_pattern}
use Rattle.am_pattern.proofs.Decided.{IsPattern-from_test}
use Rattle.am_match.specs.declared.refusal.MatcherRefusal.{MatcherRefusal}
use Rattle.am_match.specs.declared.refusal.MatcherRefusal.TheVariants.{BadPattern, LongPattern}
use Rattle.am_match.specs.Checking.{is_short, meaning_of, pattern_refusal, unless_refused}
use Rattle.am_match.specs.Matchers.{MatcherText, is_on_pattern, patterns_of}
use Rattle.am_match.specs.Reading.{matchers_of}
use Rattle.am_draft.specs.declared.route.RouteDraft.{RouteDraft}
use Rattle.am_draft.specs.declared.rule.RuleDraft.{RuleDraft}
use Rattle.am_config.specs.declared.parts.Route.{Route}
use Rattle.am_config.specs.declared.parts.Rule.{Rule}
use Rattle.am_config.specs.declared.parts.Settings.{Settings}
use Rattle.am_config.specs.Completing.{routes_with, rule_of}
use Rattle.am_config.specs.Configured.{HasPattern}
use Rattle.am_config.specs.Matching.{given, gives_matchers, matchers_in, meaning, route_texts, rule_texts}

none_refused : (bad long : Bool) → (if bad then Some BadPattern else if long then Some LongPattern else None) ≡ None →
    (bad ≡ false) × (long ≡ false)
none_refused true long e = absurd (cc)
none_refused false true e = absurd (cc)
none_refused false false e = (refl, refl)

no_bad : (short pattern : Bool) → short ≡ true → (short && not pattern) ≡ false → pattern ≡ true
no_bad true true is e = refl
no_bad true false is e = absurd (cc)
no_bad false pattern is e = absurd (cc)

are_patterns : (ps : List (List ℕ)) → list_any (λ p. is_short p && not (is_pattern p)) ps ≡ false →
    list_any (λ p. not (is_short p)) ps ≡ false → All IsPattern ps
are_patterns [] bad long = All-nil IsPattern
are_patterns (p ∷ ps) bad long =
    let fine = or_parts (is_short p && not (is_pattern p)) (list_any (λ q. is_short q && not (is_pattern q)) ps) bad in
    let short = or_parts (not (is_short p)) (list_any (λ q. not (is_short q)) ps) long in
    All-cons IsPattern p ps (IsPattern-from_test p (no_bad (is_short p) (is_pattern p) (not-false (is_short p) short.0) fine.0))
    (are_patterns ps fine.1 short.1)

have_patterns : (ms : List MatcherText) → All IsPattern (patterns_of ms) → All HasPattern ms
have_patterns [] all = All-nil HasPattern
have_patterns (m ∷ ms) all =
    elim (cases_Bool (is_on_pattern m.operator)) [
      | inl on ↦
          let those : All IsPattern (m.value ∷ patterns_of ms) = rw on at all in
          All-cons HasPattern m ms (λ is. All-head IsPattern m.value (patterns_of ms) those)
          (have_patterns ms (All-tail IsPattern m.value (patterns_of ms) those))
      | inr off ↦
          let those : All IsPattern (patterns_of ms) = rw off at all in
          All-cons HasPattern m ms (λ is. absurd (true≢false (sym is ∙ off))) (have_patterns ms those)
    ]

given_patterns : (ms : List MatcherText) (refusal : Option MatcherRefusal) → pattern_refusal is_pattern (patterns_of ms) ≡ refusal →
    is_ok (unless_refused refusal ms) ≡ true → All HasPattern (given (unless_refused refusal ms))
given_patterns ms (Some refusal) is e = absurd (cc)
given_patterns ms None is e =
    let fine = none_refused (list_any (λ p. is_short p && not (is_pattern p)) (patterns_of ms))
    (list_any (λ p. not (is_short p)) (patterns_of ms)) is in
    have_patterns ms (are_patterns (patterns_of ms) fine.0 fine.1)

spelled_patterns : (spelled : Option (List MatcherText)) → is_ok (meaning_of spelled) ≡ true → All HasPattern (given (meaning_of spelled))
spelled_patterns None e = absurd (cc)
spelled_patterns (Some ms) e = given_patterns ms (pattern_refusal is_pattern (patterns_of ms)) refl e

text_patterns : (text : List ℕ) → gives_matchers text ≡ true → All HasPattern (given (meaning text))
unfolding gives_matchers
text_patterns text e = spelled_patterns (matchers_of (chars text)) e

texts_patterns : (texts : List (List ℕ)) → list_all gives_matchers texts ≡ true → All HasPattern (matchers_in texts)
unfolding matchers_in
texts_patterns [] e = All-nil HasPattern
texts_patterns (text ∷ texts) e =
    let parts = and_parts (gives_matchers text) (list_all gives_matchers texts) e in
    All-append HasPattern (given (meaning text)) (matchers_in texts) (text_patterns text parts.0) (texts_patterns texts parts.1)

-- of two lists, each
pub of_both : (xs ys : List (List ℕ)) → list_all gives_matchers (xs ++ ys) ≡ true →
    (list_all gives_matchers xs ≡ true) × (list_all gives_matchers ys ≡ true)
of_both xs ys e = and_parts (list_all gives_matchers xs) (list_all gives_matchers ys) (sym (list_all-append gives_matchers xs ys) ∙ e)

pub routes_patterns : (settings : List Settings) (nodes : List (Node RouteDraft)) → list_all gives_matchers (route_texts nodes) ≡ true →
    All (λ (node : Node Route). All HasPattern node.item.matchers) (routes_with settings nodes)
unfolding routes_with
routes_patterns [] nodes e = All-nil (λ (node : Node Route). All HasPattern node.item.matchers)
routes_patterns (own ∷ settings) [] e = All-nil (λ (node : Node Route). All HasPattern node.item.matchers)
routes_patterns (own ∷ settings) (node ∷ nodes) e =
    let parts = of_both node.item.matchers (route_texts nodes) e in
    All-cons (λ (route : Node Route). All HasPattern route.item.matchers) _ (routes_with settings nodes)
    (texts_patterns node.item.matchers parts.0) (routes_patterns settings nodes parts.1)

pub rules_patterns : (rules : List RuleDraft) → list_all gives_matchers (rule_texts rules) ≡ true →
    All (λ (rule : Rule). All HasPattern rule.source × All HasPattern rule.target) (map rule_of rules)
rules_patterns [] e = All-nil (λ (rule : Rule). All HasPattern rule.source × All HasPattern rule.target)
rules_patterns (rule ∷ rules) e =
    let parts = of_both (rule.source ++ rule.target) (rule_texts rules) e in
    let sides = of_both rule.source rule.target parts.0 in
    All-cons (λ (read : Rule). All HasPattern read.source × All HasPattern read.target) (rule_of rule) (map rule_of rules)
    (texts_patterns rule.source sides.0, texts_patterns rule.target sides.1) (rules_patterns rules parts.1)
