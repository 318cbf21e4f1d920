-- More bytes never change a verdict.
use Rattle.std.proofs.Common.{◌≡◌, ◌≢◌, ℕ, ◌+◌, ◌<◌, ◌≤◌, ◌⊎◌, inl, inr, true, false, List, [], ◌∷◌, ◌++◌, length, take, drop, refl, sym, ap, ◌∙◌, arith, append_assoc, append-nil, Option, Some, None, Result, Ok, Err, nat_lt}
use Rattle.std.specs.List.{concat}
use Rattle.std.specs.Option.{option_map_or}
use Rattle.std.proofs.lemmas.List.{length-append, take-append-le, drop-append-le}
use Rattle.std.proofs.lemmas.Bool.Decides.{nat_tests}
use Rattle.am_http.specs.declared.scan.Place.{Place}
use Rattle.am_http.specs.declared.scan.Scan.{Scan}
use Rattle.am_http.specs.declared.scan.Scan.TheVariants.{Ended, Open}
use Rattle.am_http.specs.declared.refusal.FrontRefusal.{FrontRefusal}
use Rattle.am_http.specs.declared.refusal.FrontRefusal.TheVariants.{LongHead}
use Rattle.am_http.specs.declared.request.Fed.{Fed}
use Rattle.am_http.specs.declared.request.Fed.TheVariants as fed
use Rattle.am_http.specs.Scan.{start, next_place, scanned}
use Rattle.am_http.specs.Reading.{read_head}
use Rattle.am_http.specs.Checks.{Wanted, judged}
use Rattle.am_http.specs.Pieces.{or_next, verdict_in_pieces}
use Rattle.am_http.specs.Verdict.{after_head, verdict}
use Rattle.am_http.proofs.StageLemmas.{scanned-append, scanned-ended, ended_within, at_end, at_start, long_head, long_start}

step_above : (n m : ℕ) (a : List ℕ) → ((r : Place) → scanned (n + 1) r a ≡ Ended m → n + 1 < m) → (o : Option Place)
    → option_map_or (λ r. scanned (n + 1) r a) o (Ended (n + 1)) ≡ Ended m → n < m
step_above n m a rest None e = let same : n + 1 ≡ m = cc in omega arith
step_above n m a rest (Some r) e = let above = rest r e in omega arith

-- a head that goes on ends later
scanned-above : (n m : ℕ) (p : Place) (a : List ℕ) → scanned n p a ≡ Ended m → n < m
scanned-above n m p [] e = cc
scanned-above n m p (b ∷ a) e = step_above n m a (λ r f. scanned-above (n + 1) m r a f) (next_place p b) e

test_le : (a b : ℕ) → ((nat_lt a b ≡ true) × (a < b)) ⊎ ((nat_lt a b ≡ false) × (b ≤ a))
test_le a b = grind (arith, nat_tests)

-- ---- a head that hasn't ended

long_more : (text more : List ℕ) (s : Scan) → scanned 0 start (text ++ more) ≡ s → ((m : ℕ) → s ≡ Ended m → length text < m) → 16384 < length text
    → verdict (text ++ more) ≡ fed.Refused LongHead
long_more text more (Ended m) e above long = let far = above m refl in long_head (text ++ more) m e (omega arith)
long_more text more (Open place) e above long =
    let size = length-append text more in long_start (text ++ more) place e (omega arith)

open_more : (text more : List ℕ) (place : Place) → scanned 0 start text ≡ Open place → verdict text ≢ fed.Waits → verdict (text ++ more) ≡ verdict text
open_more text more place e decided =
    elim (test_le 16384 (length text)) [
      | inl p ↦
          long_more text more (scanned 0 start (text ++ more)) refl
          (λ m f. let far = scanned-above (0 + length text) m place more (sym (scanned-append 0 start place text more e) ∙ f) in omega arith) p.1
          ∙ sym (long_start text place e p.1)
      | inr p ↦ absurd (decided (at_start text place e ∙ rw p.0 refl))
    ]

-- ---- a head that has ended

-- a head that passes, and what follows it
body_more : (w : Wanted) (rest more : List ℕ) → after_head (Ok w) rest ≢ fed.Waits → after_head (Ok w) (rest ++ more) ≡ after_head (Ok w) rest
body_more w rest more decided =
    elim (test_le (length rest) w.body_len) [
      | inl p ↦ absurd (decided (rw p.0 refl))
      | inr p ↦
          let size = length-append rest more in
          let there : nat_lt (length (rest ++ more)) w.body_len ≡ false = not_below (length (rest ++ more)) w.body_len (omega arith) in
          rw (there, p.0, take-append-le w.body_len rest more p.1) refl
    ]
  where
    not_below : (a b : ℕ) → b ≤ a → nat_lt a b ≡ false
    not_below a b h = grind (arith, nat_tests)

rest_more : (r : Result Wanted FrontRefusal) (rest more : List ℕ) → after_head r rest ≢ fed.Waits → after_head r (rest ++ more) ≡ after_head r rest
rest_more (Err refusal) rest more decided = refl
rest_more (Ok w) rest more decided = body_more w rest more decided

ended_more : (text more : List ℕ) (n : ℕ) → scanned 0 start text ≡ Ended n → verdict text ≢ fed.Waits → verdict (text ++ more) ≡ verdict text
ended_more text more n e decided =
    let within = ended_within text n e in
    let later = scanned-ended 0 n start text more e in
    elim (test_le 16384 n) [
      | inl p ↦ long_head (text ++ more) n later p.1 ∙ sym (long_head text n e p.1)
      | inr p ↦
          let now : verdict text ≡ after_head (judged (read_head (take n text))) (drop n text) = at_end text n e ∙ rw p.0 refl in
          at_end (text ++ more) n later
          ∙ rw (p.0, take-append-le n text more within, drop-append-le n text more within)
          (rest_more (judged (read_head (take n text))) (drop n text) more (λ f. decided (now ∙ f)) ∙ sym now)
    ]

by_scan : (text more : List ℕ) (s : Scan) → scanned 0 start text ≡ s → verdict text ≢ fed.Waits → verdict (text ++ more) ≡ verdict text
by_scan text more (Ended n) e decided = ended_more text more n e decided
by_scan text more (Open place) e decided = open_more text more place e decided

pub verdict-more : (text more : List ℕ) → verdict text ≢ fed.Waits → verdict (text ++ more) ≡ verdict text
verdict-more text more decided = by_scan text more (scanned 0 start text) refl decided

-- ---- pieces

-- a verdict stands against the bytes that follow
by_verdict : (text rest : List ℕ) (v : Fed) → verdict text ≡ v
    → or_next v (verdict (text ++ rest)) ≡ verdict (text ++ rest)
by_verdict text rest fed.Waits e = refl
by_verdict text rest (fed.Refused refusal) e =
    let stays = verdict-more text rest (λ waits. let differ : fed.Refused refusal ≡ fed.Waits = sym e ∙ waits in cc) in
    sym (stays ∙ e)
by_verdict text rest fed.Ready e =
    let stays = verdict-more text rest (λ waits. let differ : fed.Ready ≡ fed.Waits = sym e ∙ waits in cc) in
    sym (stays ∙ e)
by_verdict text rest (fed.Request request) e =
    let stays = verdict-more text rest (λ waits. let differ : fed.Request request ≡ fed.Waits = sym e ∙ waits in cc) in
    sym (stays ∙ e)

pub verdict-pieces : (before : List ℕ) (pieces : List (List ℕ))
    → verdict_in_pieces before pieces ≡ verdict (before ++ concat pieces)
verdict-pieces before [] = rw append-nil refl
verdict-pieces before (piece ∷ pieces) =
    let all = ap verdict (append_assoc before piece (concat pieces)) in
    rw (verdict-pieces (before ++ piece) pieces)
    (by_verdict (before ++ piece) (concat pieces) (verdict (before ++ piece)) refl ∙ all)
