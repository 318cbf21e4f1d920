-- Where a head ends, and how the stages of a connection follow its bytes.
use Rattle.std.proofs.Common.{◌≡◌, ℕ, ◌+◌, ◌<◌, ◌≤◌, Bool, true, false, List, [], ◌∷◌, ◌++◌, length, take, drop, refl, sym, ap, subst, ◌∙◌, arith, cond, ◌==◌, ◌||◌, ◌&&◌, Option, Some, None, Ok, Err, nat_lt}
use Rattle.std.specs.Option.{option_map_or}
use Rattle.std.proofs.lemmas.List.{take-append-drop, length-take-le, length-drop, take-take}
use Rattle.std.proofs.lemmas.Bool.Decides.{nat_tests}
use Rattle.am_http.specs.declared.scan.Line.{Line}
use Rattle.am_http.specs.declared.scan.Line.TheVariants.{Empty, Return, Text}
use Rattle.am_http.specs.declared.scan.Place.{Place}
use Rattle.am_http.specs.declared.scan.Scan.{Scan}
use Rattle.am_http.specs.declared.scan.Scan.TheVariants.{Ended, Open}
use Rattle.am_http.specs.declared.refusal.FrontRefusal.{FrontRefusal}
use Rattle.am_http.specs.declared.refusal.FrontRefusal.TheVariants.{LongHead}
use Rattle.am_http.specs.declared.head.Plan.{Plan}
use Rattle.am_http.specs.declared.request.Fed.TheVariants as fed
use Rattle.am_http.specs.Scan.{kind, kind_and, start, next_line, next_place, scanned}
use Rattle.am_http.specs.HeadEnd.{is_empty_line, head_len}
use Rattle.am_http.specs.Reading.{read_head}
use Rattle.am_http.specs.Checks.{judged}
use Rattle.am_http.specs.Plans.{asked_at, wanted_at, IsPlanAt}
use Rattle.am_http.specs.Verdict.{asked_with, after_head, verdict_at, verdict}
use Rattle.am_http.specs.Stages.{HasHead, HasPlace}
use Rattle.am_http.proofs.HeadEndLemmas.{head_len_after, head_len-passed}

-- ---- the search for the end of a head

-- the length of a head that has ended
abbrev ended : Scan → Option ℕ
ended (Ended n) = Some n
ended (Open place) = None

kind-push : (line : List ℕ) (b : ℕ) → kind (line ++ b ∷ []) ≡ kind_and (kind line) b
kind-push [] b = refl
kind-push (c ∷ []) b = elim (c == 13) as (λ t. Text ≡ kind_and (cond t Return Text) b) [ true ↦ refl | false ↦ refl ]
kind-push (c ∷ d ∷ line) b = refl

-- an empty line is kept as one
abbrev Kept : Line → Bool → Type 0
Kept Empty t = t ≡ true
Kept Return t = t ≡ true
Kept Text t = t ≡ false

kept : (line : List ℕ) → Kept (kind line) (is_empty_line line)
kept [] = refl
kept (b ∷ []) = elim (b == 13) as (λ t. Kept (cond t Return Text) (false || (t && true))) [ true ↦ refl | false ↦ refl ]
kept (b ∷ c ∷ line) = elim (b == 13) as (λ t. (t && false) ≡ false) [ true ↦ refl | false ↦ refl ]

abbrev place_at : Bool → List ℕ → Place
place_at begun line = record { begun = begun; line = kind line }

-- the search from a place, and where the text's head ends, after the same bytes
abbrev Agrees : List ℕ → Type 0
Agrees bytes = (n : ℕ) (begun : Bool) (line : List ℕ) → ended (scanned n (place_at begun line) bytes) ≡ head_len_after n begun line bytes

-- after an LF
at_lf : (bytes : List ℕ) → Agrees bytes → (n : ℕ) (begun : Bool) (k : Line) (t : Bool) → Kept k t
    → ended (option_map_or (λ q. scanned (n + 1) q bytes) (next_line begun k) (Ended (n + 1)))
    ≡ cond t (cond begun (Some (n + 1)) (head_len_after (n + 1) false [] bytes)) (head_len_after (n + 1) true [] bytes)
at_lf bytes rest n true Empty t k = rw k refl
at_lf bytes rest n false Empty t k = rw k (rest (n + 1) false [])
at_lf bytes rest n true Return t k = rw k refl
at_lf bytes rest n false Return t k = rw k (rest (n + 1) false [])
at_lf bytes rest n begun Text t k = rw k (rest (n + 1) true [])

-- after any byte
at_byte : (bytes : List ℕ) → Agrees bytes → (b n : ℕ) (begun : Bool) (line : List ℕ) (t : Bool)
    → ended (option_map_or (λ q. scanned (n + 1) q bytes) (cond t (next_line begun (kind line)) (Some (record { begun = begun; line = kind_and (kind line) b }))) (Ended (n + 1)))
    ≡ cond t (cond (is_empty_line line) (cond begun (Some (n + 1)) (head_len_after (n + 1) false [] bytes)) (head_len_after (n + 1) true [] bytes))
    (head_len_after (n + 1) begun (line ++ b ∷ []) bytes)
at_byte bytes rest b n begun line true = at_lf bytes rest n begun (kind line) (is_empty_line line) (kept line)
at_byte bytes rest b n begun line false = rw (← kind-push line b) (rest (n + 1) begun (line ++ b ∷ []))

agrees : (bytes : List ℕ) → Agrees bytes
agrees [] n begun line = refl
agrees (b ∷ bytes) n begun line = at_byte bytes (agrees bytes) b n begun line (b == 10)

pub head_len-scanned : (text : List ℕ) → head_len text ≡ ended (scanned 0 start text)
head_len-scanned text = head_len-passed text ∙ sym (agrees text 0 false [])

-- ---- more bytes

open_again : (p q : Place) → Open p ≡ Open q → p ≡ q
open_again p q e = cc

-- one byte, where the search then goes on
step_open : (n : ℕ) (a b : List ℕ) (q : Place)
    → ((r : Place) → scanned (n + 1) r a ≡ Open q → scanned (n + 1) r (a ++ b) ≡ scanned (n + 1 + length a) q b) → (o : Option Place)
    → option_map_or (λ r. scanned (n + 1) r a) o (Ended (n + 1)) ≡ Open q
    → option_map_or (λ r. scanned (n + 1) r (a ++ b)) o (Ended (n + 1)) ≡ scanned (n + 1 + length a) q b
step_open n a b q rest None e = cc
step_open n a b q rest (Some r) e = rest r e

-- the search goes on from where it stopped
pub scanned-append : (n : ℕ) (p q : Place) (a b : List ℕ) → scanned n p a ≡ Open q → scanned n p (a ++ b) ≡ scanned (n + length a) q b
scanned-append n p q [] b e = let same = open_again p q e in let none : n + 0 ≡ n = omega arith in rw (same, none) refl
scanned-append n p q (c ∷ a) b e =
    let count : n + 1 + length a ≡ n + length (c ∷ a) = omega arith in
    rw (← count) (step_open n a b q (λ r f. scanned-append (n + 1) r q a b f) (next_place p c) e)

step_ended : (n m : ℕ) (a b : List ℕ) → ((r : Place) → scanned (n + 1) r a ≡ Ended m → scanned (n + 1) r (a ++ b) ≡ Ended m) → (o : Option Place)
    → option_map_or (λ r. scanned (n + 1) r a) o (Ended (n + 1)) ≡ Ended m
    → option_map_or (λ r. scanned (n + 1) r (a ++ b)) o (Ended (n + 1)) ≡ Ended m
step_ended n m a b rest None e = e
step_ended n m a b rest (Some r) e = rest r e

-- an end that was found stays
pub scanned-ended : (n m : ℕ) (p : Place) (a b : List ℕ) → scanned n p a ≡ Ended m → scanned n p (a ++ b) ≡ Ended m
scanned-ended n m p [] b e = cc
scanned-ended n m p (c ∷ a) b e = step_ended n m a b (λ r f. scanned-ended (n + 1) m r a b f) (next_place p c) e

step_bound : (n m : ℕ) (a : List ℕ) → ((r : Place) → scanned (n + 1) r a ≡ Ended m → m ≤ n + 1 + length a) → (o : Option Place)
    → option_map_or (λ r. scanned (n + 1) r a) o (Ended (n + 1)) ≡ Ended m → m ≤ n + 1 + length a
step_bound n m a rest None e = let same : n + 1 ≡ m = cc in omega arith
step_bound n m a rest (Some r) e = rest r e

-- a head ends in the text
scanned-bound : (n m : ℕ) (p : Place) (a : List ℕ) → scanned n p a ≡ Ended m → m ≤ n + length a
scanned-bound n m p [] e = cc
scanned-bound n m p (c ∷ a) e =
    let bound = step_bound n m a (λ r f. scanned-bound (n + 1) m r a f) (next_place p c) e in omega arith

pub ended_within : (text : List ℕ) (m : ℕ) → scanned 0 start text ≡ Ended m → m ≤ length text
ended_within text m e = let bound = scanned-bound 0 m start text e in omega arith

-- what was searched is a beginning of the text
pub goes_on : (text : List ℕ) (before : ℕ) (place : Place) → before ≤ length text → scanned 0 start (take before text) ≡ Open place
    → scanned 0 start text ≡ scanned before place (drop before text)
goes_on text before place within e =
    let front : length (take before text) ≡ before = length-take-le before text within in
    let none : 0 + length (take before text) ≡ before = omega arith in
    let whole = take-append-drop before text in
    ap (scanned 0 start) (sym whole) ∙ scanned-append 0 start place (take before text) (drop before text) e
    ∙ ap (λ (k : ℕ). scanned k place (drop before text)) none

pub still_ended : (text : List ℕ) (before m : ℕ) → scanned 0 start (take before text) ≡ Ended m → scanned 0 start text ≡ Ended m
still_ended text before m e =
    ap (scanned 0 start) (sym (take-append-drop before text)) ∙ scanned-ended 0 m start (take before text) (drop before text) e

-- ---- the verdict

verdict-scanned : (text : List ℕ) → verdict text ≡ verdict_at text (ended (scanned 0 start text))
unfolding verdict
verdict-scanned text = ap (verdict_at text) (head_len-scanned text)

pub at_end : (text : List ℕ) (n : ℕ) → scanned 0 start text ≡ Ended n → verdict text ≡ verdict_at text (Some n)
at_end text n e = verdict-scanned text ∙ ap (λ (s : Scan). verdict_at text (ended s)) e

pub at_start : (text : List ℕ) (place : Place) → scanned 0 start text ≡ Open place → verdict text ≡ verdict_at text None
at_start text place e = verdict-scanned text ∙ ap (λ (s : Scan). verdict_at text (ended s)) e

below : (a b : ℕ) → a ≤ b → nat_lt b a ≡ false
below a b h = grind (arith, nat_tests)

above : (a b : ℕ) → a < b → nat_lt a b ≡ true
above a b h = grind (arith, nat_tests)

-- a head that is too long
pub long_head : (text : List ℕ) (n : ℕ) → scanned 0 start text ≡ Ended n → 16384 < n → verdict text ≡ fed.Refused LongHead
long_head text n e long = at_end text n e ∙ rw (above 16384 n long) refl

pub long_start : (text : List ℕ) (place : Place) → scanned 0 start text ≡ Open place → 16384 < length text → verdict text ≡ fed.Refused LongHead
long_start text place e long = verdict-scanned text ∙ ap (λ (s : Scan). verdict_at text (ended s)) e ∙ rw (above 16384 (length text) long) refl

-- a head that hasn't ended
pub no_head : (text : List ℕ) (place : Place) → HasPlace text place → verdict text ≡ fed.Waits
no_head text place h = verdict-scanned text ∙ ap (λ (s : Scan). verdict_at text (ended s)) h.reached ∙ rw (below (length text) 16384 h.short) refl

-- a head that is refused
pub refused_head : (text : List ℕ) (n : ℕ) (refusal : FrontRefusal) → scanned 0 start text ≡ Ended n → n ≤ 16384
    → judged (read_head (take n text)) ≡ Err refusal → verdict text ≡ fed.Refused refusal
refused_head text n refusal e short refused = at_end text n e ∙ rw (below n 16384 short, refused) refl

passed : (text : List ℕ) (plan : Plan) (n : ℕ) → HasHead text plan n → verdict text ≡ after_head (Ok (wanted_at (take n text) plan)) (drop n text)
passed text plan n h = at_end text n h.ended ∙ rw (below n 16384 h.short, h.passes) refl

-- a head whose body isn't whole, or is
pub waits : (text : List ℕ) (plan : Plan) (n : ℕ) → HasHead text plan n → length text < n + plan.body_len → verdict text ≡ fed.Waits
waits text plan n h short =
    let rest = length-drop n text in
    let left : length (drop n text) < plan.body_len = let w = h.within in omega arith in
    passed text plan n h ∙ rw (above (length (drop n text)) plan.body_len left) refl

pub whole : (text : List ℕ) (plan : Plan) (n : ℕ) → HasHead text plan n → n + plan.body_len ≤ length text
    → verdict text ≡ asked_with (asked_at (take n text) plan.action) (take plan.body_len (drop n text))
whole text plan n h long =
    let rest = length-drop n text in
    let there : plan.body_len ≤ length (drop n text) = let w = h.within in omega arith in
    passed text plan n h ∙ rw (below plan.body_len (length (drop n text)) there) refl

-- a head stays where more bytes come
pub same_head : (text : List ℕ) (before : ℕ) (plan : Plan) (n : ℕ) → before ≤ length text → HasHead (take before text) plan n → HasHead text plan n
same_head text before plan n within h =
    let front : length (take before text) ≡ before = length-take-le before text within in
    let inside : n ≤ before = let w = h.within in omega arith in
    let same : take n (take before text) ≡ take n text = take-take n before text inside in
    record {
      ended = still_ended text before n h.ended;
      short = h.short;
      within = omega arith;
      passes = subst (λ (t : List ℕ). judged (read_head t) ≡ Ok (wanted_at t plan)) same h.passes;
      planned = subst (λ (t : List ℕ). IsPlanAt t plan) same h.planned;
    }
