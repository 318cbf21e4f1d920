-- A connection that waits has fewer bytes than the longest head with the longest body.
use Rattle.std.proofs.Common.{◌≡◌, ◌≢◌, ℕ, ◌+◌, ◌<◌, ◌≤◌, ◌⊎◌, inl, inr, Bool, true, false, List, length, take, drop, ◌++◌, refl, sym, ap, subst, ◌∙◌, arith, append_assoc, cond, Option, Some, None, Result, Ok, Err, nat_lt, unwrap_or, map, is_none, codes, ◌&&◌, ◌-◌, min, IfOk}
use Rattle.std.proofs.lemmas.List.{length-append, length-drop, length-take-le, take-append-drop, take_all}
use Rattle.std.proofs.lemmas.Bool.Decides.{nat_tests}
use Rattle.std.specs.Str.{bytes_eq}
use Rattle.httparse.specs.Grammar.{RequestHead}
use Rattle.httparse.specs.Spans.{name_and_value}
use Rattle.am_http.specs.declared.refusal.FrontRefusal.{FrontRefusal}
use Rattle.am_http.specs.declared.refusal.FrontRefusal.TheVariants.{MissingLength, TransferCoding, LongBody, LongHead}
use Rattle.am_http.specs.declared.request.Fed.{Fed}
use Rattle.am_http.specs.declared.request.Fed.TheVariants as fed
use Rattle.am_http.specs.declared.scan.Scan.{Scan}
use Rattle.am_http.specs.declared.scan.Scan.TheVariants.{Ended, Open}
use Rattle.am_http.specs.Checks.{Asked, Ready, Call, Wanted, ◌>>=◌, refused_if, body_stated, asked, checked, judged}
use Rattle.am_http.specs.Fields.{Fields, has_field, content_length}
use Rattle.am_http.specs.Reading.{read_head}
use Rattle.am_http.specs.Scan.{start, scanned}
use Rattle.am_http.specs.Verdict.{asked_with, after_head, verdict}
use Rattle.am_http.proofs.StageLemmas.{at_end, at_start, ended_within}
use Rattle.am_http.proofs.VerdictLemmas.{verdict-more}

-- ---- the body of a head that passes

-- a check that comes to a value passed, and so did what follows it
passed : {A B : Type 0} (r : Result A FrontRefusal) (f : A → Result B FrontRefusal) (x : B)
    → (r >>= f) ≡ Ok x → (y : A) × (r ≡ Ok y) × (f y ≡ Ok x)
passed (Ok y) f x e = (y, refl, e)
passed (Err refusal) f x e = cc

not_refused : {B : Type 0} (t : Bool) (refusal : FrontRefusal) (f : Unit {0} → Result B FrontRefusal) (x : B)
    → (refused_if t refusal >>= f) ≡ Ok x → (t ≡ false) × (f tt ≡ Ok x)
not_refused true refusal f x e = cc
not_refused false refusal f x e = (refl, e)

at_most : (m k : ℕ) → nat_lt 1048576 m ≡ false → m ≡ k → k ≤ 1048576
at_most m k t s = grind (arith, nat_tests)

ok_same : {A : Type 0} (x y : A) → ◌≡◌ {A = Result A FrontRefusal} (Ok x) (Ok y) → x ≡ y
ok_same x y e = cc

short_body : (method : List ℕ) (fields : Fields) (n : ℕ) → body_stated method fields ≡ Ok n → n ≤ 1048576
unfolding body_stated
short_body method fields n e =
    let stated = passed (content_length fields) _ n e in
    let missing = not_refused (bytes_eq method (codes "POST") && is_none stated.0) MissingLength _ n stated.2 in
    let coding = not_refused (has_field (codes "Transfer-Encoding") fields) TransferCoding _ n missing.1 in
    let long = not_refused (nat_lt 1048576 (unwrap_or stated.0 0)) LongBody _ n coding.1 in
    at_most (unwrap_or stated.0 0) n long.0 (ok_same (unwrap_or stated.0 0) n long.1)

short_wanted : (method target : List ℕ) (fields : Fields) (w : Wanted) → checked method target fields ≡ Ok w → w.body_len ≤ 1048576
unfolding checked
short_wanted method target fields w e =
    let length = passed (body_stated method fields) _ w e in
    let question = passed (asked method target fields) _ w length.2 in
    let is : length.0 ≡ w.body_len =
    ap (λ (v : Wanted). v.body_len) (ok_same (record { asked = question.0; body_len = length.0 }) w question.2) in
    subst (λ (n : ℕ). n ≤ 1048576) is (short_body method fields length.0 length.1)

short_judged : (o : Option RequestHead) (w : Wanted) → judged o ≡ Ok w → w.body_len ≤ 1048576
short_judged None w e = cc
short_judged (Some h) w e = short_wanted h.method h.target (map name_and_value h.fields) w e

-- ---- bytes that wait

below_limit : (a b : ℕ) → (a ≤ b) ⊎ (nat_lt b a ≡ true)
below_limit a b = grind (arith, nat_tests)

waits_not : (asked : Asked) (body : List ℕ) → asked_with asked body ≢ fed.Waits
waits_not Ready body = λ e. cc
waits_not (Call tenant method endpoint query) body = λ e. cc

rest_waits : (r : Result Wanted FrontRefusal) (rest : List ℕ) → ((w : Wanted) → r ≡ Ok w → w.body_len ≤ 1048576)
    → after_head r rest ≡ fed.Waits → length rest < 1048576
rest_waits (Err refusal) rest short e = cc
rest_waits (Ok w) rest short e = by_test (nat_lt (length rest) w.body_len) refl e
  where
    by_test : (t : Bool) → nat_lt (length rest) w.body_len ≡ t → cond t fed.Waits (asked_with w.asked (take w.body_len rest)) ≡ fed.Waits
        → length rest < 1048576
    by_test true lt waits = let few = short w refl in grind (arith, nat_tests)
    by_test false lt waits = absurd (waits_not w.asked (take w.body_len rest) waits)

refused_not : (refusal : FrontRefusal) → fed.Refused refusal ≢ fed.Waits
refused_not refusal = λ e. cc

by_scan : (text : List ℕ) (s : Scan) → scanned 0 start text ≡ s → verdict text ≡ fed.Waits → length text < 1064960
by_scan text (Open place) e waits =
    elim (below_limit (length text) 16384) [
      | inl few ↦ omega arith
      | inr many ↦ absurd (refused_not LongHead (sym (at_start text place e ∙ rw many refl) ∙ waits))
    ]
by_scan text (Ended n) e waits =
    elim (below_limit n 16384) [
      | inl few ↦
          let not_long : nat_lt 16384 n ≡ false = grind (arith, nat_tests) in
          let rest = rest_waits (judged (read_head (take n text))) (drop n text) (short_judged (read_head (take n text)))
          (sym (at_end text n e ∙ rw not_long refl) ∙ waits) in
          let size = length-drop n text in
          let inside = ended_within text n e in
          omega arith
      | inr many ↦ absurd (refused_not LongHead (sym (at_end text n e ∙ rw many refl) ∙ waits))
    ]

pub few_waiting : (text : List ℕ) → verdict text ≡ fed.Waits → length text < 1064960
few_waiting text = by_scan text (scanned 0 start text) refl

-- ---- a piece of which no more is taken than is needed

-- all of it is taken, or as much as decides every connection
split : (old piece : List ℕ) (n : ℕ) → n ≡ min (length piece) (1064960 - length old)
    → (take n piece ≡ piece) ⊎ ((length (take n piece) ≡ n) × (1064960 ≤ length old + n))
split old piece n e =
    elim (either (length piece) (1064960 - length old)) [
      | inl few ↦ inl (take_all n piece (omega arith))
      | inr many ↦ inr (length-take-le n piece (omega arith), omega arith)
    ]
  where
    either : (a b : ℕ) → (a ≤ b) ⊎ (b ≤ a)
    either a b = grind arith

-- so many bytes are decided
enough : (old piece : List ℕ) (n : ℕ) → 1064960 ≤ length old + n → length (take n piece) ≡ n → verdict (old ++ take n piece) ≢ fed.Waits
enough old piece n room full =
    λ waits.
    let few = few_waiting (old ++ take n piece) waits in
    let size = length-append old (take n piece) in
    omega arith

pub needed_verdict : (old piece : List ℕ) (n : ℕ) → n ≡ min (length piece) (1064960 - length old)
    → verdict (old ++ take n piece) ≡ verdict (old ++ piece)
needed_verdict old piece n e =
    elim (split old piece n e) [
      | inl all ↦ ap (λ (p : List ℕ). verdict (old ++ p)) all
      | inr full ↦
          let whole : (old ++ take n piece) ++ drop n piece ≡ old ++ piece =
          append_assoc old (take n piece) (drop n piece) ∙ ap (λ (p : List ℕ). old ++ p) (take-append-drop n piece) in
          sym (verdict-more (old ++ take n piece) (drop n piece) (enough old piece n full.1 full.0)) ∙ ap verdict whole
    ]

-- .. and where more bytes are needed all came
pub needed_text : {E : Type 0} (r : Result Fed E) (old piece : List ℕ) (n : ℕ) → n ≡ min (length piece) (1064960 - length old)
    → IfOk r (λ f. f ≡ verdict (old ++ take n piece)) → IfOk r (λ f. f ≡ fed.Waits → old ++ take n piece ≡ old ++ piece)
needed_text (Err error) old piece n e said = tt
needed_text (Ok f) old piece n e said =
    λ waits. elim (split old piece n e) [
      | inl all ↦ ap (λ (p : List ℕ). old ++ p) all
      | inr full ↦ absurd (enough old piece n full.1 full.0 (sym said ∙ waits))
    ]
