-- The label sets that have a label, one by one.
use Rattle.std.proofs.Common.{◌≡◌, ◌≢◌, ◌∙◌, ℕ, zero, suc, ◌+◌, ◌<◌, ◌==◌, ◌&&◌, ◌||◌, not, Bool, Bor, true, false, cond, is_some, List, All, [], ◌∷◌, ◌++◌, Option, None, Some, filter, length, map, take, get_or, refl, sym, ap, append_assoc, append-nil, inl, inr, arith}
use Rattle.std.specs.BTreeMap.{BTreeMap, get_by}
use Rattle.std.specs.Cmp.Lexicographic.{nat_list_eq_equiv, slice_cmp}
use Rattle.std.specs.List.{Contains, list_all, list_any}
use Rattle.std.specs.Map.{update}
use Rattle.std.specs.Ordering.{nat_cmp}
use Rattle.std.specs.Str.{bytes_eq}
use Rattle.std.specs.Option.{ForSome, option_map}
use Rattle.std.proofs.lemmas.Bool.{cases_Bool, eq-eqb, ne_eqb, or_parts, true≢false}
use Rattle.std.proofs.lemmas.List.{get_or-map, length-map, length-take, map-append, take_more}
use Rattle.std.proofs.lemmas.List.Elements.{All-head, All-tail, Contains-append_cases}
use Rattle.std.proofs.lemmas.List.Folds.{list_any-append}
use Rattle.std.proofs.lemmas.List.Sorted.{IsPermutation-refl}
use Rattle.std.proofs.lemmas.Slice.Eq.{bytes_eq-Decides}
use Rattle.am_labels.specs.Labels.{has_name, has_value, repeats}
use Rattle.am_labels.specs.Sets.{IsLabelSet, value_of}
use Rattle.am_labels.specs.declared.Label.{Label}
use Rattle.am_labels.proofs.Values.{no_repeats_from_rising, value_of-cons}
use Rattle.am_match.specs.Matchers.{MatcherText}
use Rattle.am_table.specs.Holders.{Shown, held_at, holders_from, labels_named, none_hold, shown_of, with_holders}
use Rattle.am_table.specs.declared.holders.Holders.{Holders}

-- ---- which are noted

-- more of them behind some
pub with-append : (one other : List (ℕ × List ℕ)) (shown : Shown) → with_holders (one ++ other) shown ≡ with_holders other (with_holders one shown)
with-append one other shown =
    let firsts = ap (λ back. shown.0 ++ back) (map-append (λ (h : ℕ × List ℕ). h.0) one other)
    ∙ sym (append_assoc shown.0 (map (λ (h : ℕ × List ℕ). h.0) one) (map (λ (h : ℕ × List ℕ). h.0) other)) in
    let seconds = ap (λ back. shown.1 ++ back) (map-append (λ (h : ℕ × List ℕ). h.1) one other)
    ∙ sym (append_assoc shown.1 (map (λ (h : ℕ × List ℕ). h.1) one) (map (λ (h : ℕ × List ℕ). h.1) other)) in
    let pair : List ℕ → List (List ℕ) → Shown = λ a b. (a, b) in
    ap (λ a. pair a (shown.1 ++ map (λ (h : ℕ × List ℕ). h.1) (one ++ other))) firsts
    ∙ ap (pair ((shown.0 ++ map (λ (h : ℕ × List ℕ). h.0) one) ++ map (λ (h : ℕ × List ℕ). h.0) other)) seconds

pub with-nothing : (shown : Shown) → with_holders [] shown ≡ shown
with-nothing shown =
    let pair : List ℕ → List (List ℕ) → Shown = λ a b. (a, b) in
    ap (λ a. pair a (shown.1 ++ [])) (append-nil shown.0) ∙ ap (pair shown.0) (append-nil shown.1)

-- the same of what may be kept
pub noted-append : (one other : List (ℕ × List ℕ)) (found : Option Shown) → option_map (with_holders (one ++ other)) found ≡ option_map (with_holders other) (option_map (with_holders one) found)
noted-append one other None = refl
noted-append one other (Some shown) = ap Some (with-append one other shown)

pub noted-nothing : (found : Option Shown) → option_map (with_holders []) found ≡ found
noted-nothing None = refl
noted-nothing (Some shown) = ap Some (with-nothing shown)

-- one of them more
pub shown_added : (before after : Holders) (place : ℕ) (value : List ℕ) → after.places.items ≡ before.places.items ++ place ∷ [] →
    map (λ (v : Bor (List ℕ)). v.now) after.values.items ≡ map (λ (v : Bor (List ℕ)). v.now) before.values.items ++ value ∷ [] →
    shown_of after ≡ with_holders ((place, value) ∷ []) (shown_of before)
shown_added before after place value places values =
    let pair : List ℕ → List (List ℕ) → Shown = λ a b. (a, b) in
    ap (λ a. pair a (map (λ (v : Bor (List ℕ)). v.now) after.values.items)) places ∙ ap (pair (before.places.items ++ place ∷ [])) values

-- one label more
pub named-more : (place : ℕ) (name : List ℕ) (labels : List Label) (i : ℕ) (label : Label) → i < length labels → label ≡ get_or labels i label →
    labels_named place name (take (i + 1) labels) ≡ labels_named place name (take i labels) ++ labels_named place name (label ∷ [])
named-more place name labels i label within is =
    ap (labels_named place name) (take_more labels i label within ∙ ap (λ l. take i labels ++ l ∷ []) (sym is)) ∙ named-append (take i labels) (label ∷ [])
  where
    named-append : (one other : List Label) → labels_named place name (one ++ other) ≡ labels_named place name one ++ labels_named place name other
    named-append [] other = refl
    named-append (l ∷ one) other =
        let rest = named-append one other in
        elim (cases_Bool (bytes_eq name l.name)) [ inl on ↦ rw (on, rest) refl | inr off ↦ rw (off, rest) refl ]

-- one label set more
holders-last : (place : ℕ) (name : List ℕ) (sets : List (List Label)) (labels : List Label) →
    holders_from place name (sets ++ labels ∷ []) ≡ holders_from place name sets ++ labels_named (place + length sets) name labels
holders-last place name [] labels =
    let same : place + 0 ≡ place = omega arith in
    append-nil (labels_named place name labels) ∙ ap (λ n. labels_named n name labels) (sym same)
holders-last place name (first ∷ sets) labels =
    let same : place + 1 + length sets ≡ place + suc (length sets) = omega arith in
    ap (λ back. labels_named place name first ++ back) (holders-last (place + 1) name sets labels)
    ∙ sym (append_assoc (labels_named place name first) (holders_from (place + 1) name sets) (labels_named (place + 1 + length sets) name labels))
    ∙ ap (λ n. (labels_named place name first ++ holders_from (place + 1) name sets) ++ labels_named n name labels) same

pub holders-more : (name : List ℕ) (sets : List (List Label)) (i : ℕ) (labels : List Label) → i < length sets → labels ≡ get_or sets i labels →
    holders_from 0 name (take (i + 1) sets) ≡ holders_from 0 name (take i sets) ++ labels_named i name labels
holders-more name sets i labels within is =
    let long : 0 + length (take i sets) ≡ i = omega (arith, length-take i sets, within) in
    ap (holders_from 0 name) (take_more sets i labels within ∙ ap (λ l. take i sets ++ l ∷ []) (sym is))
    ∙ holders-last 0 name (take i sets) labels
    ∙ ap (λ n. holders_from 0 name (take i sets) ++ labels_named n name labels) long

-- ---- what is kept under names

last_is : (name q : List ℕ) → Contains (name ∷ []) q → name ≡ q
last_is name q (zero, below, is) = is
last_is name q (suc k, below, is) = absurd (omega (arith, below))

module _ (old new : BTreeMap (Bor (List ℕ)) Holders) (name : List ℕ) (after : Holders)
    (updates : (other : List ℕ) → get_by (λ key. slice_cmp nat_cmp other key.now) new
    ≡ update bytes_eq (λ before. get_by (λ key. slice_cmp nat_cmp before key.now) old) name (Some after) other) where
  -- under that name it is what was put, and under the others as before
  held_put : (other : List ℕ) → held_at new other ≡ cond (bytes_eq name other) (Some (shown_of after)) (held_at old other)
  held_put other = ap (option_map shown_of) (updates other) ∙ either (bytes_eq name other)
    where
      either : (b : Bool) → option_map shown_of (cond b (Some after) (get_by (λ key. slice_cmp nat_cmp other key.now) old)) ≡ cond b (Some (shown_of after)) (held_at old other)
      either true = refl
      either false = refl

  -- a label more
  pub noted_label : (place : ℕ) (label : Label) (before : Holders) → label.name ≡ name → Some before ≡ get_by (λ key. slice_cmp nat_cmp name key.now) old →
      shown_of after ≡ with_holders ((place, label.value) ∷ []) (shown_of before) →
      (other : List ℕ) → held_at new other ≡ option_map (with_holders (labels_named place other (label ∷ []))) (held_at old other)
  noted_label place label before named there more other =
      let turned : bytes_eq other label.name ≡ bytes_eq name other = ap (bytes_eq other) named ∙ nat_list_eq_equiv.symm other name in
      elim (cases_Bool (bytes_eq name other)) [
        | inl same ↦ (
            let one : name ≡ other = (bytes_eq-Decides name other).0 same in
            let found : held_at old other ≡ Some (shown_of before) = ap (held_at old) (sym one) ∙ ap (option_map shown_of) (sym there) in
            held_put other
            ∙ ap (λ b. cond b (Some (shown_of after)) (held_at old other)) same
            ∙ ap Some more
            ∙ sym (ap (λ b. option_map (with_holders (map (λ (l : Label). (place, l.value)) (cond b (label ∷ []) []))) (held_at old other)) (turned ∙ same)
            ∙ ap (option_map (with_holders ((place, label.value) ∷ []))) found)
            )
        | inr apart ↦
            held_put other
            ∙ ap (λ b. cond b (Some (shown_of after)) (held_at old other)) apart
            ∙ sym (ap (λ b. option_map (with_holders (map (λ (l : Label). (place, l.value)) (cond b (label ∷ []) []))) (held_at old other)) (turned ∙ apart)
            ∙ noted-nothing (held_at old other))
      ]

  -- a name more, which no label set has so far
  pub none_put : (names : List (List ℕ)) → shown_of after ≡ none_hold → ((other : List ℕ) → Contains names other → held_at old other ≡ Some none_hold) →
      (other : List ℕ) → Contains (names ++ name ∷ []) other → held_at new other ≡ Some none_hold
  none_put names none before other there =
      elim (cases_Bool (bytes_eq name other)) [
        | inl same ↦ held_put other ∙ ap (λ b. cond b (Some (shown_of after)) (held_at old other)) same ∙ ap Some none
        | inr apart ↦
            held_put other ∙ ap (λ b. cond b (Some (shown_of after)) (held_at old other)) apart
            ∙ elim (Contains-append_cases names (name ∷ []) other there) [
              | inl among ↦ before other among
              | inr last ↦ absurd (true≢false (sym (itself other last) ∙ apart))
            ]
      ]
    where
      itself : (q : List ℕ) → Contains (name ∷ []) q → bytes_eq name q ≡ true
      itself q last = (bytes_eq-Decides name q).1 (last_is name q last)

  pub none_each : shown_of after ≡ none_hold → ((other : List ℕ) → ForSome (held_at old other) (λ (shown : Shown). shown ≡ none_hold)) →
      (other : List ℕ) → ForSome (held_at new other) (λ (shown : Shown). shown ≡ none_hold)
  none_each none each other shown is =
      elim (cases_Bool (bytes_eq name other)) [
        | inl same ↦ (
            let both : Some (shown_of after) ≡ Some shown = sym (held_put other ∙ ap (λ b. cond b (Some (shown_of after)) (held_at old other)) same) ∙ is in
            let there : shown_of after ≡ shown = cc in
            sym there ∙ none
            )
        | inr apart ↦ each other shown (sym (held_put other ∙ ap (λ b. cond b (Some (shown_of after)) (held_at old other)) apart) ∙ is)
      ]

-- a name that is there already
pub none_there : (held : BTreeMap (Bor (List ℕ)) Holders) (names : List (List ℕ)) (name : List ℕ) →
    ((other : List ℕ) → Contains names other → held_at held other ≡ Some none_hold) → ((other : List ℕ) → ForSome (held_at held other) (λ (shown : Shown). shown ≡ none_hold)) →
    (found : Option Holders) → found ≡ get_by (λ key. slice_cmp nat_cmp name key.now) held → is_some found ≡ true →
    (other : List ℕ) → Contains (names ++ name ∷ []) other → held_at held other ≡ Some none_hold
none_there held names name before each None is some other there = absurd (true≢false (sym some))
none_there held names name before each (Some holders) is some other there =
    let kept : held_at held name ≡ Some (shown_of holders) = ap (option_map shown_of) (sym is) in
    elim (Contains-append_cases names (name ∷ []) other there) [
      | inl among ↦ before other among
      | inr last ↦ ap (held_at held) (sym (last_is name other last)) ∙ kept ∙ ap Some (each name (shown_of holders) kept)
    ]

-- the names of one question more
pub names_more : (qs : List (ℕ × MatcherText)) (i : ℕ) (q : ℕ × MatcherText) → i < length qs → q ≡ get_or qs i q → (name : List ℕ) → q.1.name ≡ name →
    map (λ (p : ℕ × MatcherText). p.1.name) (take (i + 1) qs) ≡ map (λ (p : ℕ × MatcherText). p.1.name) (take i qs) ++ name ∷ []
names_more qs i q within is name named =
    let view : ℕ × MatcherText → List ℕ = λ p. p.1.name in
    ap (map view) (take_more qs i q within ∙ ap (λ p. take i qs ++ p ∷ []) (sym is))
    ∙ map-append view (take i qs) (q ∷ [])
    ∙ ap (λ n. map view (take i qs) ++ n ∷ []) named

-- the name of a question is among them
pub name_among : (qs : List (ℕ × MatcherText)) (k : ℕ) (q : ℕ × MatcherText) → k < length qs → q ≡ get_or qs k q → (name : List ℕ) → q.1.name ≡ name →
    Contains (map (λ (p : ℕ × MatcherText). p.1.name) qs) name
name_among qs k q within is name named = (
  k,
  omega (arith, length-map qs (λ (p : ℕ × MatcherText). p.1.name), within),
  get_or-map (λ (p : ℕ × MatcherText). p.1.name) qs k q name within ∙ ap (λ (p : ℕ × MatcherText). p.1.name) (sym is) ∙ named,
)

-- a label that isn't asked for
pub noted_none : (held : BTreeMap (Bor (List ℕ)) Holders) (place : ℕ) (label : Label) (name : List ℕ) → label.name ≡ name →
    None ≡ get_by (λ key. slice_cmp nat_cmp name key.now) held →
    (other : List ℕ) → held_at held other ≡ option_map (with_holders (labels_named place other (label ∷ []))) (held_at held other)
noted_none held place label name named missing other =
    elim (cases_Bool (bytes_eq other label.name)) [
      | inl same ↦ (
          let one : name ≡ other = sym ((bytes_eq-Decides other label.name).0 same ∙ named) in
          let nothing : held_at held other ≡ None = ap (held_at held) (sym one) ∙ ap (option_map shown_of) (sym missing) in
          nothing ∙ sym (ap (option_map (with_holders (labels_named place other (label ∷ [])))) nothing)
          )
      | inr apart ↦ sym (ap (λ b. option_map (with_holders (map (λ (l : Label). (place, l.value)) (cond b (label ∷ []) []))) (held_at held other)) apart ∙ noted-nothing (held_at held other))
    ]

-- ---- what they tell

or_false : (b : Bool) → (b || false) ≡ b
or_false true = refl
or_false false = refl

and_false : (b : Bool) → (b && false) ≡ false
and_false true = refl
and_false false = refl

pub and_true : (b : Bool) → (b && true) ≡ b
and_true true = refl
and_true false = refl

-- a place among those of some elements
pub place_any : {A : Type 0} (k : ℕ) (place : A → ℕ) (test : A → Bool) (xs : List A) →
    list_any (λ other. k == other) (map place (filter test xs)) ≡ list_any (λ x. (k == place x) && test x) xs
place_any k place test [] = refl
place_any k place test (x ∷ xs) =
    let rest = place_any k place test xs in
    elim (cases_Bool (test x)) [
      | inl on ↦ rw on (ap (λ b. (k == place x) || b) rest ∙ ap (λ b. b || list_any (λ y. (k == place y) && test y) xs) (sym (and_true (k == place x))))
      | inr off ↦ rw off (rest ∙ ap (λ b. b || list_any (λ y. (k == place y) && test y) xs) (sym (and_false (k == place x))))
    ]

module _ (name : List ℕ) (test : ℕ → List ℕ → Bool) where
  -- of labels none of which repeats, only one can have the name
  one_named : (k : ℕ) (labels : List Label) → repeats labels ≡ false →
      list_any (λ (h : ℕ × List ℕ). (k == h.0) && test h.0 h.1) (labels_named k name labels) ≡ (has_name name labels && test k (value_of name labels))
  one_named k [] none = refl
  one_named k (label ∷ labels) none =
      let parts = or_parts (has_name label.name labels) (repeats labels) none in
      let rest = one_named k labels parts.1 in
      elim (cases_Bool (bytes_eq name label.name)) [
        | inl on ↦ (
            let same : name ≡ label.name = (bytes_eq-Decides name label.name).0 on in
            let absent : has_name name labels ≡ false = ap (λ n. has_name n labels) same ∙ parts.0 in
            let later = rest ∙ ap (λ b. b && test k (value_of name labels)) absent in
            rw (value_of-cons name label labels, on)
            (ap (λ b. (b && test k label.value) || list_any (λ (h : ℕ × List ℕ). (k == h.0) && test h.0 h.1) (labels_named k name labels)) (eq-eqb k k refl)
            ∙ ap (λ b. test k label.value || b) later ∙ or_false (test k label.value))
            )
        | inr off ↦ rw (value_of-cons name label labels, off) rest
      ]

  -- at another place there is none of them
  none_elsewhere : (k place : ℕ) (labels : List Label) → k ≢ place →
      list_any (λ (h : ℕ × List ℕ). (k == h.0) && test h.0 h.1) (labels_named place name labels) ≡ false
  none_elsewhere k place [] apart = refl
  none_elsewhere k place (label ∷ labels) apart =
      let rest = none_elsewhere k place labels apart in
      elim (cases_Bool (bytes_eq name label.name)) [
        | inl on ↦ rw (on, ne_eqb k place apart) rest
        | inr off ↦ rw off rest
      ]

  none_later : (k place : ℕ) (sets : List (List Label)) → k < place →
      list_any (λ (h : ℕ × List ℕ). (k == h.0) && test h.0 h.1) (holders_from place name sets) ≡ false
  none_later k place [] below = refl
  none_later k place (labels ∷ sets) below =
      list_any-append (λ (h : ℕ × List ℕ). (k == h.0) && test h.0 h.1) (labels_named place name labels) (holders_from (place + 1) name sets)
      ∙ ap (λ b. b || list_any (λ (h : ℕ × List ℕ). (k == h.0) && test h.0 h.1) (holders_from (place + 1) name sets))
      (none_elsewhere k place labels (λ same. omega (arith, same, below)))
      ∙ none_later k (place + 1) sets (omega (arith, below))

  -- what they tell of the label set at a place
  pub held_any : (place i k : ℕ) (sets : List (List Label)) → All IsLabelSet sets → k ≡ place + i → i < length sets →
      list_any (λ (h : ℕ × List ℕ). (k == h.0) && test h.0 h.1) (holders_from place name sets)
      ≡ (has_name name (get_or sets i []) && test k (value_of name (get_or sets i [])))
  held_any place i k [] fine is within = absurd (omega arith)
  held_any place zero k (labels ∷ sets) fine is within =
      let same : k ≡ place = omega (arith, is) in
      let once = no_repeats_from_rising labels labels (IsPermutation-refl labels) (All-head IsLabelSet labels sets fine).rising in
      list_any-append (λ (h : ℕ × List ℕ). (k == h.0) && test h.0 h.1) (labels_named place name labels) (holders_from (place + 1) name sets)
      ∙ ap (λ b. list_any (λ (h : ℕ × List ℕ). (k == h.0) && test h.0 h.1) (labels_named place name labels) || b) (none_later k (place + 1) sets (omega (arith, is)))
      ∙ or_false (list_any (λ (h : ℕ × List ℕ). (k == h.0) && test h.0 h.1) (labels_named place name labels))
      ∙ ap (λ n. list_any (λ (h : ℕ × List ℕ). (k == h.0) && test h.0 h.1) (labels_named n name labels)) (sym same)
      ∙ one_named k labels once
  held_any place (suc i) k (labels ∷ sets) fine is within =
      list_any-append (λ (h : ℕ × List ℕ). (k == h.0) && test h.0 h.1) (labels_named place name labels) (holders_from (place + 1) name sets)
      ∙ ap (λ b. b || list_any (λ (h : ℕ × List ℕ). (k == h.0) && test h.0 h.1) (holders_from (place + 1) name sets))
      (none_elsewhere k place labels (λ same. omega (arith, same, is)))
      ∙ held_any (place + 1) i k sets (All-tail IsLabelSet labels sets fine) (omega (arith, is)) (omega (arith, within))

-- a label that a set has has a value
pub value_there : (name : List ℕ) (labels : List Label) → IsLabelSet labels → has_name name labels ≡ true → bytes_eq [] (value_of name labels) ≡ false
value_there name labels fine has = read labels fine.values has
  where
    and_parts : (a b : Bool) → (a && b) ≡ true → (a ≡ true) × (b ≡ true)
    and_parts true b h = (refl, h)
    and_parts false b h = absurd (true≢false (sym h))

    some : (value : List ℕ) → not (length value == 0) ≡ true → bytes_eq [] value ≡ false
    some [] h = absurd (true≢false (sym h))
    some (byte ∷ value) h = refl

    read : (ls : List Label) → list_all has_value ls ≡ true → has_name name ls ≡ true → bytes_eq [] (value_of name ls) ≡ false
    read [] values there = absurd (true≢false (sym there))
    read (label ∷ ls) values there =
        let both = and_parts (has_value label) (list_all has_value ls) values in
        elim (cases_Bool (bytes_eq name label.name)) [
          | inl on ↦ rw (value_of-cons name label ls, on) (some label.value both.0)
          | inr off ↦ rw (value_of-cons name label ls, off) (read ls both.1 (rw off at there))
        ]
