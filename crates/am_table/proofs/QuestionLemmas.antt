-- The matchers of routes with the routes' numbers: they are those of the routes, and answer for them.
use Rattle.std.proofs.Common.{◌≡◌, ◌≢◌, ◌∙◌, ℕ, zero, suc, ◌+◌, ◌<◌, ◌≤◌, ◌==◌, ◌&&◌, ◌||◌, not, Bool, true, false, List, All, [], ◌∷◌, ◌++◌, length, map, take, get_or, refl, sym, ap, append_assoc, append-nil, inl, inr, arith}
use Rattle.std.specs.Prelude.{if◌then◌else◌}
use Rattle.std.specs.List.{Contains, list_all, sum_by}
use Rattle.std.specs.List.Sorted.{IsPermutation}
use Rattle.std.proofs.lemmas.Bool.{cases_Bool, ne_eqb, eq-eqb}
use Rattle.std.proofs.lemmas.List.{get_or-map, length-map, length-take, map-append, take-map, take_more}
use Rattle.std.proofs.lemmas.List.Elements.{All-append, All-cons, All-contains, All-map, All-nil}
use Rattle.std.proofs.lemmas.List.Sums.{AllPass-from_list_all, list_all-from_AllPass, sum_by-cons}
use Rattle.std.proofs.lemmas.Map.Entries.{sum_by_values_permutation}
use Rattle.std.proofs.lemmas.List.Folds.{list_all-append}
use Rattle.std.proofs.lemmas.List.Sorted.{All-permutation, IsPermutation-sym}
use Rattle.am_labels.specs.declared.Label.{Label}
use Rattle.am_match.specs.Matchers.{MatcherText, is_on_pattern, patterns_of}
use Rattle.am_match.specs.Meaning.{all_take, takes_labels}
use Rattle.am_match.proofs.FailureLemmas.{AreAmong, in_back, in_front}
use Rattle.am_table.proofs.NarrowLemmas.{patterns-more, patterns-some}
use Rattle.am_table.specs.Tables.{all_matchers, answer_of, questions_from}

-- a matcher of the route of this number
abbrev pub numbered : ℕ → List MatcherText → List (ℕ × MatcherText)
numbered number matchers = map (λ matcher. (number, matcher)) matchers

-- those of one route more
pub questions_more : (first : ℕ) (nodes : List (List MatcherText)) (node : List MatcherText) →
    questions_from first (nodes ++ node ∷ []) ≡ questions_from first nodes ++ numbered (first + length nodes) node
questions_more first [] node =
    let same : first + 0 ≡ first = omega arith in
    append-nil (numbered first node) ∙ ap (λ n. numbered n node) (sym same)
questions_more first (other ∷ nodes) node =
    let same : first + 1 + length nodes ≡ first + suc (length nodes) = omega arith in
    ap (λ rest. numbered first other ++ rest) (questions_more (first + 1) nodes node)
    ∙ ap (λ n. numbered first other ++ (questions_from (first + 1) nodes ++ numbered n node)) same
    ∙ sym (append_assoc (numbered first other) (questions_from (first + 1) nodes) (numbered (first + suc (length nodes)) node))

-- the numbers are places of routes
numbers_of : (P : ℕ → Type 0) (number : ℕ) (matchers : List MatcherText) → P number → All (λ (q : ℕ × MatcherText). P q.0) (numbered number matchers)
numbers_of P number [] fine = All-nil (λ (q : ℕ × MatcherText). P q.0)
numbers_of P number (m ∷ ms) fine = All-cons (λ (q : ℕ × MatcherText). P q.0) (number, m) (numbered number ms) fine (numbers_of P number ms fine)

pub numbers_fit : (top first : ℕ) (nodes : List (List MatcherText)) → first + length nodes ≤ top → All (λ (q : ℕ × MatcherText). q.0 < top) (questions_from first nodes)
numbers_fit top first [] h = All-nil (λ (q : ℕ × MatcherText). q.0 < top)
numbers_fit top first (node ∷ nodes) h =
    All-append (λ (q : ℕ × MatcherText). q.0 < top) (numbered first node) (questions_from (first + 1) nodes)
    (numbers_of (λ n. n < top) first node (omega (arith, h)))
    (numbers_fit top (first + 1) nodes (omega (arith, h)))

-- the matchers are those of the routes
module _ (P : MatcherText → Type 0) where
  matchers_of : (number : ℕ) (matchers : List MatcherText) → ((m : MatcherText) → Contains matchers m → P m) → All (λ (q : ℕ × MatcherText). P q.1) (numbered number matchers)
  matchers_of number [] fine = All-nil (λ (q : ℕ × MatcherText). P q.1)
  matchers_of number (m ∷ ms) fine =
      All-cons (λ (q : ℕ × MatcherText). P q.1) (number, m) (numbered number ms) (fine m (0, omega arith, refl))
      (matchers_of number ms (λ other at. fine other (in_back (m ∷ []) ms other at)))

  pub matchers_fit : (first : ℕ) (nodes : List (List MatcherText)) → ((m : MatcherText) → Contains (all_matchers nodes) m → P m) →
      All (λ (q : ℕ × MatcherText). P q.1) (questions_from first nodes)
  matchers_fit first [] fine = All-nil (λ (q : ℕ × MatcherText). P q.1)
  matchers_fit first (node ∷ nodes) fine =
      All-append (λ (q : ℕ × MatcherText). P q.1) (numbered first node) (questions_from (first + 1) nodes)
      (matchers_of first node (λ m at. fine m (in_front node (all_matchers nodes) m at)))
      (matchers_fit (first + 1) nodes (λ m at. fine m (in_back node (all_matchers nodes) m at)))

-- ---- what they answer

-- a matcher that counts for a route
abbrev counts : ℕ → List Label → ℕ × MatcherText → Bool
counts number labels q = not (q.0 == number) || takes_labels q.1 labels

pub and_true : (b : Bool) → (b && true) ≡ b
and_true true = refl
and_true false = refl

module _ (labels : List Label) where
  own_answer : (number : ℕ) (ms : List MatcherText) → list_all (counts number labels) (numbered number ms) ≡ list_all (λ m. takes_labels m labels) ms
  own_answer number [] = refl
  own_answer number (m ∷ ms) = rw (eq-eqb number number refl, own_answer number ms) refl

  other_answer : (number other : ℕ) → other ≢ number → (ms : List MatcherText) → list_all (counts number labels) (numbered other ms) ≡ true
  other_answer number other apart [] = refl
  other_answer number other apart (m ∷ ms) = rw (ne_eqb other number apart, other_answer number other apart ms) refl

  later_answer : (number first : ℕ) (nodes : List (List MatcherText)) → number < first → list_all (counts number labels) (questions_from first nodes) ≡ true
  later_answer number first [] below = refl
  later_answer number first (node ∷ nodes) below =
      list_all-append (counts number labels) (numbered first node) (questions_from (first + 1) nodes)
      ∙ ap (λ b. b && list_all (counts number labels) (questions_from (first + 1) nodes)) (other_answer number first (omega (arith, below)) node)
      ∙ later_answer number (first + 1) nodes (omega (arith, below))

  -- a route's answer is that of its matchers among all
  pub answer_from : (first i number : ℕ) (nodes : List (List MatcherText)) (other : List MatcherText) → number ≡ first + i → i < length nodes →
      answer_of (questions_from first nodes) number labels ≡ all_take (get_or nodes i other) labels
  answer_from first i number [] other is below = absurd (omega arith)
  answer_from first zero number (node ∷ nodes) other is below =
      let same : number ≡ first = omega (arith, is) in
      list_all-append (counts number labels) (numbered first node) (questions_from (first + 1) nodes)
      ∙ ap (λ b. list_all (counts number labels) (numbered first node) && b) (later_answer number (first + 1) nodes (omega (arith, is)))
      ∙ and_true (list_all (counts number labels) (numbered first node))
      ∙ ap (λ n. list_all (counts n labels) (numbered first node)) same
      ∙ own_answer first node
  answer_from first (suc i) number (node ∷ nodes) other is below =
      list_all-append (counts number labels) (numbered first node) (questions_from (first + 1) nodes)
      ∙ ap (λ b. b && list_all (counts number labels) (questions_from (first + 1) nodes)) (other_answer number first (omega (arith, is)) node)
      ∙ answer_from (first + 1) i number nodes other (omega (arith, is)) (omega (arith, below))

-- the order doesn't matter
pub all_in_any_order : {A : Type 0} (test : A → Bool) (xs ys : List A) → IsPermutation xs ys → list_all test ys ≡ list_all test xs
all_in_any_order test xs ys same =
    elim (cases_Bool (list_all test xs)) [
      | inl all ↦ list_all-from_AllPass test ys (All-permutation (λ x. test x ≡ true) xs ys same (AllPass-from_list_all test xs all)) ∙ sym all
      | inr some ↦ elim (cases_Bool (list_all test ys)) [
        | inl all ↦ all ∙ sym (list_all-from_AllPass test xs
            (All-permutation (λ x. test x ≡ true) ys xs (IsPermutation-sym xs ys same) (AllPass-from_list_all test ys all)))
        | inr none ↦ none ∙ sym some
      ]
    ]

-- those of the next route
pub questions_at : (nodes : List (List MatcherText)) (number : ℕ) (node : List MatcherText) → number < length nodes → node ≡ get_or nodes number node →
    questions_from 0 (take number nodes) ++ numbered number node ≡ questions_from 0 (take (number + 1) nodes)
questions_at nodes number node within is =
    let long : 0 + length (take number nodes) ≡ number = omega (arith, length-take number nodes, within) in
    sym
    (ap (questions_from 0) (take_more nodes number node within ∙ ap (λ n. take number nodes ++ n ∷ []) (sym is))
    ∙ questions_more 0 (take number nodes) node
    ∙ ap (λ n. questions_from 0 (take number nodes) ++ numbered n node) long)

-- the questions are about matchers of the routes
pub among_lists : (nodes : List (List MatcherText)) (qs : List (ℕ × MatcherText)) → IsPermutation (questions_from 0 nodes) qs →
    AreAmong (map (λ (q : ℕ × MatcherText). q.1) qs) (all_matchers nodes)
among_lists nodes qs same m at =
    All-contains (Contains (all_matchers nodes)) (map (λ (q : ℕ × MatcherText). q.1) qs) m
    (All-map (Contains (all_matchers nodes)) (λ (q : ℕ × MatcherText). q.1) qs
    (All-permutation (λ (q : ℕ × MatcherText). Contains (all_matchers nodes) q.1) (questions_from 0 nodes) qs same
    (matchers_fit (Contains (all_matchers nodes)) 0 nodes (λ other there. there))))
    at

-- and about routes
pub among_numbers : (nodes : List (List MatcherText)) (qs : List (ℕ × MatcherText)) (count : ℕ) → IsPermutation (questions_from 0 nodes) qs → count ≡ length nodes →
    All (λ (q : ℕ × MatcherText). q.0 < count) qs
among_numbers nodes qs count same is =
    All-permutation (λ (q : ℕ × MatcherText). q.0 < count) (questions_from 0 nodes) qs same (numbers_fit count 0 nodes (omega (arith, is)))

-- ---- how many patterns they ask for

-- one for a matcher on a pattern
abbrev weight : MatcherText → ℕ
weight m = if is_on_pattern m.operator then 1 else 0

patterns_weigh : (ms : List MatcherText) → length (patterns_of ms) ≡ sum_by weight ms
patterns_weigh [] = refl
patterns_weigh (m ∷ ms) =
    let first : length (patterns_of (m ∷ ms)) ≡ weight m + length (patterns_of ms) =
    elim (cases_Bool (is_on_pattern m.operator)) [ inl on ↦ rw on (omega arith) | inr off ↦ rw off (omega arith) ] in
    omega (arith, first, patterns_weigh ms, sum_by-cons weight m ms)

-- the matchers of the questions
abbrev asked_matchers : List (ℕ × MatcherText) → List MatcherText
asked_matchers qs = map (λ (q : ℕ × MatcherText). q.1) qs

own_matchers : (number : ℕ) (ms : List MatcherText) → asked_matchers (numbered number ms) ≡ ms
own_matchers number [] = refl
own_matchers number (m ∷ ms) = ap (λ rest. m ∷ rest) (own_matchers number ms)

matchers_from : (first : ℕ) (nodes : List (List MatcherText)) → asked_matchers (questions_from first nodes) ≡ all_matchers nodes
matchers_from first [] = refl
matchers_from first (node ∷ nodes) =
    map-append (λ (q : ℕ × MatcherText). q.1) (numbered first node) (questions_from (first + 1) nodes)
    ∙ ap (λ front. front ++ asked_matchers (questions_from (first + 1) nodes)) (own_matchers first node)
    ∙ ap (λ back. node ++ back) (matchers_from (first + 1) nodes)

-- as many as the routes have, in any order
pub as_many_patterns : (nodes : List (List MatcherText)) (qs : List (ℕ × MatcherText)) → IsPermutation (questions_from 0 nodes) qs →
    length (patterns_of (asked_matchers qs)) ≡ length (patterns_of (all_matchers nodes))
as_many_patterns nodes qs same =
    patterns_weigh (asked_matchers qs)
    ∙ sum_by_values_permutation weight (questions_from 0 nodes) qs same
    ∙ ap (sum_by weight) (matchers_from 0 nodes)
    ∙ sym (patterns_weigh (all_matchers nodes))

-- of one question more
pub questions_more_patterns : (qs : List (ℕ × MatcherText)) (k : ℕ) (q : ℕ × MatcherText) → k < length qs → q ≡ get_or qs k q →
    length (patterns_of (asked_matchers (take (k + 1) qs))) ≡ length (patterns_of (asked_matchers (take k qs))) + length (patterns_of (q.1 ∷ []))
questions_more_patterns qs k q within is =
    let second : ℕ × MatcherText → MatcherText = λ p. p.1 in
    ap (λ ms. length (patterns_of ms)) (sym (take-map second (k + 1) qs))
    ∙ patterns-more (map second qs) k q.1 (omega (arith, length-map qs second, within)) (ap second is ∙ sym (get_or-map second qs k q q.1 within))
    ∙ ap (λ ms. length (patterns_of ms) + length (patterns_of (q.1 ∷ []))) (take-map second k qs)

-- of some of them
pub questions_some_patterns : (qs : List (ℕ × MatcherText)) (k : ℕ) → length (patterns_of (asked_matchers (take k qs))) ≤ length (patterns_of (asked_matchers qs))
questions_some_patterns qs k =
    let second : ℕ × MatcherText → MatcherText = λ p. p.1 in
    let same : length (patterns_of (take k (map second qs))) ≡ length (patterns_of (map second (take k qs))) = ap (λ ms. length (patterns_of ms)) (take-map second k qs) in
    omega (arith, patterns-some (map second qs) k, same)
