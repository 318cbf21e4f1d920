-- Targets that wait for the list of their rules' sources.
use Rattle.std.proofs.Common.{◌≡◌, ◌∙◌, ℕ, zero, suc, ◌+◌, ◌<◌, ◌≤◌, ◌&&◌, ◌||◌, not, Bool, true, false, List, All, [], ◌∷◌, ap, get_or, length, map, refl, replicate, sym, take, arith}
use Rattle.std.proofs.lemmas.List.{length-map}
use Rattle.std.proofs.lemmas.List.Folds.{list_any_more}
use Rattle.am_labels.specs.declared.Label.{Label}
use Rattle.am_match.specs.Meaning.{all_take}
use Rattle.am_config.specs.declared.parts.Rule.{Rule}
use Rattle.am_inhibit.specs.Alike.{are_alike}
use Rattle.am_inhibit.specs.Inhibits.{AreInhibitors, inhibits, inhibits_by}
use Rattle.am_inhibit.specs.Links.{AreLinked, is_among}
use Rattle.am_inhibit.specs.Sides.{AreLinkedAlone, AreLinkedBoth}
use Rattle.am_inhibit.proofs.RuleLemmas.{flag_is, one_more, one_rule, rule_none, two_steps}

-- what a target that waits gets by the rule: the one place, where it takes the source alone and is like it
abbrev pub comes_by : Rule → List (List Label) → List Bool → ℕ → ℕ → Bool
comes_by rule sets fires k place =
    not (all_take rule.source (get_or sets k []))
    && ((all_take rule.source (get_or sets place []) && get_or fires place false) && are_alike rule.equal (get_or sets place []) (get_or sets k []))

-- with what comes to those that wait, the lists have the inhibitors by the rules
abbrev pub AreInhibitorsBut : Rule → List Rule → List (List Label) → List Bool → List Bool → List (List (List ℕ)) → Type 0
AreInhibitorsBut next rules sets fires waiting each =
    (k place : ℕ) → k < length sets → place < length sets →
    (is_among (get_or each k []) place || (get_or waiting k false && comes_by next sets fires k place))
    ≡ (get_or fires place false && inhibits_by rules (get_or sets place []) (get_or sets k []))

-- ---- flags

or_false : (b : Bool) → (b || false) ≡ b
or_false true = refl
or_false false = refl

or_true : (b : Bool) → (b || true) ≡ true
or_true true = refl
or_true false = refl

and_assoc : (a b c : Bool) → ((a && b) && c) ≡ (a && (b && c))
and_assoc true b c = refl
and_assoc false b c = refl

-- of what was there and what comes to those that take both sides; whether the target waited, takes the target and the
-- source, and whether the source is like it: those that come once it waits come as if they came at once
waits : (old both w t s g : Bool) → ((old || both) || ((w || t) && (not s && g))) ≡ (((old || (w && (not s && g))) || ((t && not s) && g)) || both)
waits true both w t s g = refl
waits false true w t s g = sym (or_true ((w && (not s && g)) || ((t && not s) && g)))
waits false false true true true g = refl
waits false false true false true g = refl
waits false false true t false true = refl
waits false false true true false false = refl
waits false false true false false false = refl
waits false false false false s g = refl
waits false false false true true g = refl
waits false false false true false true = refl
waits false false false true false false = refl

-- no flag is set
abbrev pub IsNoneSet : List Bool → Type 0
IsNoneSet flags = (k : ℕ) → get_or flags k false ≡ false

pub none_set : (n : ℕ) → IsNoneSet (replicate n false)
none_set zero k = refl
none_set (suc n) zero = refl
none_set (suc n) (suc k) = none_set n k

-- ---- what comes by flags

-- to targets that take the target alone
pub alone_linked : (names : List (List ℕ)) (sets : List (List Label)) (sources targets fires firing target_alone : List Bool) (old new : List (List (List ℕ))) →
    ((k : ℕ) → k < length sets → get_or firing k false ≡ (get_or sources k false && get_or fires k false)) →
    ((k : ℕ) → k < length sets → get_or target_alone k false ≡ (get_or targets k false && not (get_or sources k false))) →
    AreLinked names sets firing target_alone old new → AreLinkedAlone names sets sources targets fires old new
alone_linked names sets sources targets fires firing target_alone old new is_firing is_target linked k place below within =
    let alike = are_alike names (get_or sets place []) (get_or sets k []) in
    let held = is_among (get_or old k []) place in
    linked k place below within
    ∙ ap (λ b. held || (b && (get_or firing place false && alike))) (is_target k below)
    ∙ ap (λ b. held || ((get_or targets k false && not (get_or sources k false)) && (b && alike))) (is_firing place within)

-- to those that take both sides
pub both_linked : (names : List (List ℕ)) (sets : List (List Label)) (sources targets fires firing source_alone both_sides : List Bool) (old new : List (List (List ℕ))) →
    ((k : ℕ) → k < length sets → get_or firing k false ≡ (get_or sources k false && get_or fires k false)) →
    ((k : ℕ) → k < length sets → get_or source_alone k false ≡ (get_or firing k false && not (get_or targets k false))) →
    ((k : ℕ) → k < length sets → get_or both_sides k false ≡ (get_or targets k false && get_or sources k false)) →
    AreLinked names sets source_alone both_sides old new → AreLinkedBoth names sets sources targets fires old new
both_linked names sets sources targets fires firing source_alone both_sides old new is_firing is_source is_both linked k place below within =
    let alike = are_alike names (get_or sets place []) (get_or sets k []) in
    let held = is_among (get_or old k []) place in
    let takes_both = get_or targets k false && get_or sources k false in
    linked k place below within
    ∙ ap (λ b. held || (b && (get_or source_alone place false && alike))) (is_both k below)
    ∙ ap (λ b. held || (takes_both && (b && alike))) (is_source place within)
    ∙ ap (λ b. held || (takes_both && ((b && not (get_or targets place false)) && alike))) (is_firing place within)

-- ---- rules

module _ {A : Type 0} (view : A → List Label) (sets : List A) (fires : List Bool) where
  -- one rule more: those that take both sides got theirs, and its targets wait with the others
  pub waiting_more : (rules : List Rule) (i : ℕ) (rule : Rule) → i < length rules → rule ≡ get_or rules i rule → (sources targets waiting joined : List Bool) →
      sources ≡ map (λ x. all_take rule.source (view x)) sets → targets ≡ map (λ x. all_take rule.target (view x)) sets →
      ((k : ℕ) → k < length sets → get_or joined k false ≡ (get_or waiting k false || get_or targets k false)) →
      (old new : List (List (List ℕ))) → AreInhibitorsBut rule (take i rules) (map view sets) fires waiting old →
      AreLinkedBoth rule.equal (map view sets) sources targets fires old new → AreInhibitorsBut rule (take (i + 1) rules) (map view sets) fires joined new
  waiting_more rules i rule fits at sources targets waiting joined is_source is_target is_joined old new before both k place below within =
      let long = length-map sets view in
      let source = get_or (map view sets) place [] in
      let target = get_or (map view sets) k [] in
      let sp : get_or sources place false ≡ all_take rule.source source = ap (λ flags. get_or flags place false) is_source ∙ flag_is view sets fires rule.source place (omega (arith, within, long)) in
      let tp : get_or targets place false ≡ all_take rule.target source = ap (λ flags. get_or flags place false) is_target ∙ flag_is view sets fires rule.target place (omega (arith, within, long)) in
      let sk : get_or sources k false ≡ all_take rule.source target = ap (λ flags. get_or flags k false) is_source ∙ flag_is view sets fires rule.source k (omega (arith, below, long)) in
      let tk : get_or targets k false ≡ all_take rule.target target = ap (λ flags. get_or flags k false) is_target ∙ flag_is view sets fires rule.target k (omega (arith, below, long)) in
      let held = is_among (get_or old k []) place in
      let fp = get_or fires place false in
      let w = get_or waiting k false in
      let firing = all_take rule.source source && fp in
      let alike = are_alike rule.equal source target in
      let came = (all_take rule.target target && all_take rule.source target) && ((firing && not (all_take rule.target source)) && alike) in
      let linked : is_among (get_or new k []) place ≡ (held || came) = rw (← sp, ← tp, ← sk, ← tk) (both k place below within) in
      let here : get_or joined k false ≡ (w || all_take rule.target target) = is_joined k (omega (arith, below, long)) ∙ ap (λ b. w || b) tk in
      let now = held || (w && comes_by rule (map view sets) fires k place) in
      ap (λ b. b || (get_or joined k false && comes_by rule (map view sets) fires k place)) linked
      ∙ ap (λ b. (held || came) || (b && comes_by rule (map view sets) fires k place)) here
      ∙ waits held came w (all_take rule.target target) (all_take rule.source target) (firing && alike)
      ∙ two_steps now (all_take rule.target target) (all_take rule.source target) (all_take rule.target source) firing alike
      ∙ one_rule now (all_take rule.target target) (all_take rule.source target) (all_take rule.source source) (all_take rule.target source) fp alike
      ∙ ap (λ b. b || (fp && inhibits rule source target)) (before k place below within)
      ∙ one_more fp (inhibits_by (take i rules) source target) (inhibits rule source target)
      ∙ ap (λ b. fp && b)
      (sym (list_any_more (λ (r : Rule). inhibits r source target) rules i rule fits
      ∙ ap (λ (r : Rule). inhibits_by (take i rules) source target || inhibits r source target) (sym at)))

  -- those that waited got theirs, and none waits
  pub waiting_linked : (rules : List Rule) (rule next : Rule) (sources waiting none : List Bool) → sources ≡ map (λ x. all_take rule.source (view x)) sets → IsNoneSet none →
      (old new : List (List (List ℕ))) → AreInhibitorsBut rule rules (map view sets) fires waiting old →
      AreLinkedAlone rule.equal (map view sets) sources waiting fires old new → AreInhibitorsBut next rules (map view sets) fires none new
  waiting_linked rules rule next sources waiting none is_source is_none old new before alone k place below within =
      let long = length-map sets view in
      let source = get_or (map view sets) place [] in
      let target = get_or (map view sets) k [] in
      let sp : get_or sources place false ≡ all_take rule.source source = ap (λ flags. get_or flags place false) is_source ∙ flag_is view sets fires rule.source place (omega (arith, within, long)) in
      let sk : get_or sources k false ≡ all_take rule.source target = ap (λ flags. get_or flags k false) is_source ∙ flag_is view sets fires rule.source k (omega (arith, below, long)) in
      let held = is_among (get_or old k []) place in
      let w = get_or waiting k false in
      let alike = (all_take rule.source source && get_or fires place false) && are_alike rule.equal source target in
      let linked : is_among (get_or new k []) place ≡ (held || ((w && not (all_take rule.source target)) && alike)) = rw (← sp, ← sk) (alone k place below within) in
      ap (λ b. is_among (get_or new k []) place || (b && comes_by next (map view sets) fires k place)) (is_none k)
      ∙ or_false (is_among (get_or new k []) place)
      ∙ linked
      ∙ ap (λ b. held || b) (and_assoc w (not (all_take rule.source target)) alike)
      ∙ before k place below within

  -- before any rule
  pub waiting_none : (next : Rule) (waiting : List Bool) (each : List (List (List ℕ))) → length each ≡ length sets → All (λ (lists : List (List ℕ)). lists ≡ []) each →
      IsNoneSet waiting → AreInhibitorsBut next [] (map view sets) fires waiting each
  waiting_none next waiting each long none is_none k place below within =
      ap (λ b. is_among (get_or each k []) place || (b && comes_by next (map view sets) fires k place)) (is_none k)
      ∙ or_false (is_among (get_or each k []) place)
      ∙ rule_none view sets fires each long none k place below within

-- the next rule has the same sources
pub waiting_on : (rules : List Rule) (rule next : Rule) (sets : List (List Label)) (fires waiting : List Bool) (each : List (List (List ℕ))) →
    rule.source ≡ next.source → rule.equal ≡ next.equal → AreInhibitorsBut rule rules sets fires waiting each → AreInhibitorsBut next rules sets fires waiting each
waiting_on rules rule next sets fires waiting each source equal before k place below within =
    rw (← source, ← equal) (before k place below within)

-- behind the last rule
pub waiting_over : (rules : List Rule) (next : Rule) (sets : List (List Label)) (fires waiting : List Bool) (each : List (List (List ℕ))) → IsNoneSet waiting →
    AreInhibitorsBut next rules sets fires waiting each → AreInhibitors rules sets fires each
waiting_over rules next sets fires waiting each none before k place below within =
    sym (or_false (is_among (get_or each k []) place))
    ∙ ap (λ b. is_among (get_or each k []) place || (b && comes_by next sets fires k place)) (sym (none k))
    ∙ before k place below within
