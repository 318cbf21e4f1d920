-- A head is the least beginning that ends with an empty line after one that isn't empty.
use Rattle.std.proofs.Common.{◌≡◌, ℕ, ◌+◌, ◌<◌, ◌≤◌, ◌⊎◌, inl, inr, Bool, true, false, not, ◌&&◌, zero, suc, List, [], ◌∷◌, ◌++◌, length, take, refl, sym, ap, ◌∙◌, arith, cond, if◌then◌else◌, ◌==◌, Option, Some, None}
use Rattle.am_http.specs.HeadEnd.{is_empty_line, lines_after, end_a_head, ends_head, least, head_len, IsHeadLen}

-- ---- the least beginning that ends a head

-- the number is the least from n to n + more that passes the test, or none passes
abbrev IsLeast : (ℕ → Bool) → ℕ → ℕ → Option ℕ → Type 0
IsLeast test n more None = (k : ℕ) → n ≤ k → k ≤ n + more → test k ≡ false
IsLeast test n more (Some m) =
    (n ≤ m) × (m ≤ n + more) × (test m ≡ true) × ((k : ℕ) → n ≤ k → k < m → test k ≡ false)

first_or_later : (n k : ℕ) → n ≤ k → (k ≡ n) ⊎ (n + 1 ≤ k)
first_or_later n k l = grind arith

only_one : (test : ℕ → Bool) (n : ℕ) (t : Bool) → test n ≡ t → IsLeast test n 0 (cond t (Some n) None)
only_one test n true e = (omega arith, omega arith, e, λ k l m. absurd (omega arith))
only_one test n false e = λ k l m. let same : k ≡ n = omega arith in ap test same ∙ e

one_before : (test : ℕ → Bool) (n more : ℕ) (o : Option ℕ) (t : Bool) → test n ≡ t → IsLeast test (n + 1) more o
    → IsLeast test n (suc more) (cond t (Some n) o)
one_before test n more o true e rest = (omega arith, omega arith, e, λ k l m. absurd (omega arith))
one_before test n more None false e rest = λ k l m.
    elim (first_or_later n k l) [ inl same ↦ ap test same ∙ e | inr later ↦ rest k later (omega arith) ]
one_before test n more (Some m) false e rest =
    let low = rest.0 in
    let high = rest.1 in (
      omega arith,
      omega arith,
      rest.2,
      λ k l below.
          elim (first_or_later n k l) [ inl same ↦ ap test same ∙ e | inr later ↦ rest.3 k later below ],
    )

least_is : (test : ℕ → Bool) (n more : ℕ) → IsLeast test n more (least test n more)
least_is test n zero = only_one test n (test n) refl
least_is test n (suc more) = one_before test n more (least test (n + 1) more) (test n) refl (least_is test (n + 1) more)

ends_least : (text : List ℕ) (o : Option ℕ)
    → IsLeast (λ k. ends_head (take k text)) 0 (length text) o → IsHeadLen text o
ends_least text None l = λ k within. l k (omega arith) (omega arith)
ends_least text (Some m) l = let high = l.1 in (omega arith, l.2, λ k below. l.3 k (omega arith) below)

pub head_len-least : (text : List ℕ) → IsHeadLen text (head_len text)
head_len-least text = ends_least text (head_len text) (least_is (λ k. ends_head (take k text)) 0 (length text))

three : (m n : ℕ) → (m < n) ⊎ ((m ≡ n) ⊎ (n < m))
three m n = grind arith

both_ways : {A : Type 0} (b : Bool) → b ≡ true → b ≡ false → A
both_ways b is isnt = let f : true ≡ false = sym is ∙ isnt in cc

-- there is one such length
one_length : (text : List ℕ) (a b : Option ℕ) → IsHeadLen text a → IsHeadLen text b → a ≡ b
one_length text None None x y = refl
one_length text None (Some n) x y = both_ways (ends_head (take n text)) y.1 (x n y.0)
one_length text (Some m) None x y = both_ways (ends_head (take m text)) x.1 (y m x.0)
one_length text (Some m) (Some n) x y =
    elim (three m n) [
      | inl less ↦ both_ways (ends_head (take m text)) x.1 (y.2 m less)
      | inr p ↦ elim p [
        | inl same ↦ ap (λ (k : ℕ). Some k) same
        | inr more ↦ both_ways (ends_head (take n text)) y.1 (x.2 n more)
      ]
    ]

-- ---- one pass over the text

-- the length of the text up to its first empty line after one that isn't empty, that line included: n bytes came
-- before, `begun` tells whether a line that isn't empty is among them, and `line` is what they have of the present line
abbrev pub head_len_after : ℕ → Bool → List ℕ → List ℕ → Option ℕ
head_len_after n begun line [] = None
head_len_after n begun line (b ∷ bytes) =
    if b == 10 then (
    if is_empty_line line then (if begun then Some (n + 1) else head_len_after (n + 1) false [] bytes)
    else head_len_after (n + 1) true [] bytes)
    else head_len_after (n + 1) begun (line ++ b ∷ []) bytes

-- what the lines before tell: the last of them isn't empty just where `begun`
abbrev Tells : Bool → List (List ℕ) → Type 0
Tells begun [] = begun ≡ false
Tells begun (line ∷ before) = is_empty_line line ≡ not begun

-- whether the lines end a head with the first k bytes more
abbrev ends_at : List ℕ → List (List ℕ) → List ℕ → ℕ → Bool
ends_at line before bytes k = end_a_head (lines_after line before (take k bytes))

-- what is found in the bytes from a place: nothing ends a head but with no byte more, or the first that does
abbrev Found : ℕ → List ℕ → List (List ℕ) → List ℕ → Option ℕ → Type 0
Found n line before bytes None = (k : ℕ) → k < length bytes → ends_at line before bytes (suc k) ≡ false
Found n line before bytes (Some m) =
    (j : ℕ) × (m ≡ n + suc j) × (j < length bytes) × (ends_at line before bytes (suc j) ≡ true) × ((k : ℕ) → k < j → ends_at line before bytes (suc k) ≡ false)

-- a line that goes on ends nothing
goes_on : (line : List ℕ) (b : ℕ) (before : List (List ℕ)) → end_a_head ((line ++ b ∷ []) ∷ before) ≡ false
goes_on [] b before = refl
goes_on (c ∷ line) b before = refl

-- an LF ends a head just where its line is empty and the one before isn't
at_lf : (line : List ℕ) (begun : Bool) (before : List (List ℕ)) → Tells begun before → end_a_head ([] ∷ line ∷ before) ≡ (is_empty_line line && begun)
at_lf line begun [] t = rw t (and_false (is_empty_line line))
  where
    and_false : (b : Bool) → false ≡ (b && false)
    and_false true = refl
    and_false false = refl
at_lf line begun (other ∷ before) t = rw t (ap (λ (b : Bool). is_empty_line line && b) (twice begun))
  where
    twice : (b : Bool) → not (not b) ≡ b
    twice true = refl
    twice false = refl

-- one byte more, with which the rest goes on from these lines
shift : (n : ℕ) (line line' : List ℕ) (before before' : List (List ℕ)) (b : ℕ) (bytes : List ℕ) (o : Option ℕ)
    → ((k : ℕ) → ends_at line before (b ∷ bytes) (suc k) ≡ ends_at line' before' bytes k) → ends_at line' before' bytes 0 ≡ false
    → Found (n + 1) line' before' bytes o → Found n line before (b ∷ bytes) o
shift n line line' before before' b bytes None same none found = nothing
  where
    nothing : (k : ℕ) → k < length (b ∷ bytes) → ends_at line before (b ∷ bytes) (suc k) ≡ false
    nothing zero l = same 0 ∙ none
    nothing (suc k) l = same (suc k) ∙ found k (omega arith)
shift n line line' before before' b bytes (Some m) same none found =
    let sum : n + 1 + suc found.0 ≡ n + suc (suc found.0) = omega arith in
    let inside = found.2 in
    (suc found.0, found.1 ∙ sum, omega arith, same (suc found.0) ∙ found.3, below found.0 found.4)
  where
    below : (j : ℕ) → ((k : ℕ) → k < j → ends_at line' before' bytes (suc k) ≡ false) → (k : ℕ) → k < suc j → ends_at line before (b ∷ bytes) (suc k) ≡ false
    below j least zero l = same 0 ∙ none
    below j least (suc k) l = same (suc k) ∙ least k (omega arith)

-- what head_len_after finds is what the lines say
abbrev Agrees : List ℕ → Type 0
Agrees bytes = (n : ℕ) (begun : Bool) (line : List ℕ) (before : List (List ℕ)) → Tells begun before → Found n line before bytes (head_len_after n begun line bytes)

after_lf : (bytes : List ℕ) → Agrees bytes → (n : ℕ) (begun : Bool) (line : List ℕ) (before : List (List ℕ)) (b : ℕ) → (b == 10) ≡ true → Tells begun before
    → (empty : Bool) → is_empty_line line ≡ empty
    → Found n line before (b ∷ bytes) (cond empty (cond begun (Some (n + 1)) (head_len_after (n + 1) false [] bytes)) (head_len_after (n + 1) true [] bytes))
after_lf bytes rest n true line before b lf t true e =
    (0, refl, omega arith, rw lf (at_lf line true before t ∙ rw e refl), λ k l. absurd (omega arith))
after_lf bytes rest n false line before b lf t true e =
    shift n line [] before (line ∷ before) b bytes _ (λ k. rw lf refl) (at_lf line false before t ∙ rw e refl) (rest (n + 1) false [] (line ∷ before) e)
after_lf bytes rest n begun line before b lf t false e =
    shift n line [] before (line ∷ before) b bytes _ (λ k. rw lf refl) (at_lf line begun before t ∙ rw e refl) (rest (n + 1) true [] (line ∷ before) e)

after_byte : (bytes : List ℕ) → Agrees bytes → (n : ℕ) (begun : Bool) (line : List ℕ) (before : List (List ℕ)) (b : ℕ) (lf : Bool) → (b == 10) ≡ lf → Tells begun before
    → Found n line before (b ∷ bytes) (cond lf (cond (is_empty_line line) (cond begun (Some (n + 1)) (head_len_after (n + 1) false [] bytes)) (head_len_after (n + 1) true [] bytes))
    (head_len_after (n + 1) begun (line ++ b ∷ []) bytes))
after_byte bytes rest n begun line before b true lf t = after_lf bytes rest n begun line before b lf t (is_empty_line line) refl
after_byte bytes rest n begun line before b false lf t =
    shift n line (line ++ b ∷ []) before before b bytes _ (λ k. rw lf refl) (goes_on line b before) (rest (n + 1) begun (line ++ b ∷ []) before t)

agrees : (bytes : List ℕ) → Agrees bytes
agrees [] n begun line before t = λ k l. absurd (omega arith)
agrees (b ∷ bytes) n begun line before t = after_byte bytes (agrees bytes) n begun line before b (b == 10) refl t

found_least : (text : List ℕ) (o : Option ℕ) → Found 0 [] [] text o → IsHeadLen text o
found_least text None found = none
  where
    none : (k : ℕ) → k ≤ length text → ends_head (take k text) ≡ false
    none zero l = refl
    none (suc k) l = found k (omega arith)
found_least text (Some m) found =
    let same : m ≡ suc found.0 = let is = found.1 in omega arith in
    let inside = found.2 in
    rw same (omega arith, found.3, below found.0 found.4)
  where
    below : (j : ℕ) → ((k : ℕ) → k < j → ends_at [] [] text (suc k) ≡ false) → (k : ℕ) → k < suc j → ends_head (take k text) ≡ false
    below j first zero l = refl
    below j first (suc k) l = first k (omega arith)

-- one pass finds the least beginning that ends a head
pub head_len-passed : (text : List ℕ) → head_len text ≡ head_len_after 0 false [] text
head_len-passed text =
    one_length text (head_len text) (head_len_after 0 false [] text) (head_len-least text)
    (found_least text (head_len_after 0 false [] text) (agrees text 0 false [] [] refl))
