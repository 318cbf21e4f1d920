-- What is read by the grammars alone is what is meant.
use Rattle.std.proofs.Common.{◌≡◌, ℕ, List, [], ◌∷◌, All, Bool, true, false, not, ◌&&◌, Option, None, Some, Result, Ok, Err, chars, refl, sym, ap}
use Rattle.std.specs.Prelude.{if◌then◌else◌, is_ok, IfErr, IfOk, OnOk}
use Rattle.std.specs.List.{list_all, list_any}
use Rattle.std.proofs.lemmas.Bool.{and_from, and_parts, not-false, or_parts}
use Rattle.std.proofs.lemmas.List.Elements.{All-cons, All-nil}
use Rattle.am_text.specs.Outcome.{ForRefused, Gives, result_refused_as}
use Rattle.am_text.specs.declared.failure.Failure.{Failure}
use Rattle.am_text.specs.declared.failure.Failure.TheVariants.{Refused, OutOfMemory}
use Rattle.am_pattern.specs.Taking.{IsPattern, is_shallow}
use Rattle.am_pattern.proofs.ReadLemmas.{pattern-shallow}
use Rattle.am_match.specs.declared.refusal.MatcherRefusal.{MatcherRefusal}
use Rattle.am_match.specs.declared.refusal.MatcherRefusal.TheVariants.{BadPattern, LongPattern}
use Rattle.am_match.specs.Checking.{is_short, meaning_of, pattern_refusal, reading_of, unless_refused}
use Rattle.am_match.specs.Matchers.{MatcherText, patterns_of}
use Rattle.am_match.specs.Reading.{matchers_of}
use Rattle.am_match.proofs.CheckingLemmas.{patterns_pass}
use Rattle.am_config.specs.declared.refusal.ConfigRefusal.{ConfigRefusal}
use Rattle.am_config.specs.declared.refusal.ConfigRefusal.TheVariants.{BadMatcher}
use Rattle.am_config.specs.Matching.{given, gives_matchers, meaning, reads_matchers}

none_refused : (bad long : Bool) → (if bad then Some BadPattern else if long then Some LongPattern else None) ≡ None →
    (bad ≡ false) × (long ≡ false)
none_refused true long e = absurd (cc)
none_refused false true e = absurd (cc)
none_refused false false e = (refl, refl)

shallow_of : (short shallow : Bool) → short ≡ true → (short && not shallow) ≡ false → shallow ≡ true
shallow_of true true is e = refl
shallow_of true false is e = absurd (cc)
shallow_of false shallow is e = absurd (cc)

-- patterns that aren't refused
are_patterns : (ps : List (List ℕ)) → list_any (λ p. is_short p && not (is_shallow p)) ps ≡ false →
    list_any (λ p. not (is_short p)) ps ≡ false → All IsPattern ps
are_patterns [] bad long = All-nil IsPattern
are_patterns (p ∷ ps) bad long =
    let fine = or_parts (is_short p && not (is_shallow p)) (list_any (λ q. is_short q && not (is_shallow q)) ps) bad in
    let short = or_parts (not (is_short p)) (list_any (λ q. not (is_short q)) ps) long in
    All-cons IsPattern p ps (pattern-shallow p (shallow_of (is_short p) (is_shallow p) (not-false (is_short p) short.0) fine.0))
    (are_patterns ps fine.1 short.1)

-- matchers that are read are those that are meant
module _ (spelled ms : List MatcherText) where
  spelled_meant : (refusal : Option MatcherRefusal) → pattern_refusal is_shallow (patterns_of spelled) ≡ refusal →
      unless_refused refusal spelled ≡ Ok ms → meaning_of (Some spelled) ≡ Ok ms
  spelled_meant None is e =
      let fine = none_refused (list_any (λ p. is_short p && not (is_shallow p)) (patterns_of spelled))
      (list_any (λ p. not (is_short p)) (patterns_of spelled)) is in
      rw (patterns_pass (patterns_of spelled) (are_patterns (patterns_of spelled) fine.0 fine.1)) e
  spelled_meant (Some refusal) is e = absurd (cc)

read_meant : (spelled : Option (List MatcherText)) (ms : List MatcherText) → reading_of spelled ≡ Ok ms → meaning_of spelled ≡ Ok ms
read_meant None ms e = absurd (cc)
read_meant (Some spelled) ms e = spelled_meant spelled ms (pattern_refusal is_shallow (patterns_of spelled)) refl e

-- the matchers of a text that is read
pub given_is : (text : List ℕ) (ms : List MatcherText) → reading_of (matchers_of (chars text)) ≡ Ok ms → given (meaning text) ≡ ms
given_is text ms read = ap given (read_meant (matchers_of (chars text)) ms read)

pub reads_is : (text : List ℕ) (ms : List MatcherText) → reading_of (matchers_of (chars text)) ≡ Ok ms → reads_matchers text ≡ true
unfolding reads_matchers
reads_is text ms read = ap is_ok read

pub reads_not : (text : List ℕ) (refusal : MatcherRefusal) → reading_of (matchers_of (chars text)) ≡ Err refusal → reads_matchers text ≡ false
unfolding reads_matchers
reads_not text refusal read = ap is_ok read

some_read : (spelled : Option (List MatcherText)) (outcome : Result (List MatcherText) MatcherRefusal) → reading_of spelled ≡ outcome →
    is_ok outcome ≡ true → is_ok (meaning_of spelled) ≡ true
some_read spelled (Ok ms) is e = ap is_ok (read_meant spelled ms is)
some_read spelled (Err refusal) is e = absurd (cc)

reads_give : (text : List ℕ) → reads_matchers text ≡ true → gives_matchers text ≡ true
unfolding reads_matchers gives_matchers
reads_give text e = some_read (matchers_of (chars text)) (reading_of (matchers_of (chars text))) refl e

-- texts that are read mean matchers
pub all_give : (texts : List (List ℕ)) → list_all reads_matchers texts ≡ true → list_all gives_matchers texts ≡ true
all_give [] e = refl
all_give (text ∷ texts) e =
    let parts = and_parts (reads_matchers text) (list_all reads_matchers texts) e in
    and_from _ _ (reads_give text parts.0) (all_give texts parts.1)

-- what reading a text by the grammars alone gives
module _ {X : Type 0} (view : X → List MatcherText) (text : List ℕ) where
  pub reread_given : (result : Result X (Failure MatcherRefusal)) → Gives view result (reading_of (matchers_of (chars text))) →
      IfOk (result_refused_as BadMatcher result) (λ v. view v ≡ given (meaning text))
  reread_given (Ok v) read = sym (given_is text (view v) read)
  reread_given (Err failure) read = tt

  pub reread_reads : (result : Result X (Failure MatcherRefusal)) → Gives view result (reading_of (matchers_of (chars text))) →
      OnOk (result_refused_as BadMatcher result) (reads_matchers text ≡ true)
  reread_reads (Ok v) read = reads_is text (view v) read
  reread_reads (Err failure) read = tt

  pub reread_refused : (result : Result X (Failure MatcherRefusal)) → Gives view result (reading_of (matchers_of (chars text))) →
      IfErr (result_refused_as BadMatcher result)
      (λ failure. ForRefused failure (λ (refusal : ConfigRefusal). (refusal ≡ BadMatcher) × (reads_matchers text ≡ false)))
  reread_refused (Ok v) read = tt
  reread_refused (Err (Refused refusal)) read = (refl, reads_not text refusal read)
  reread_refused (Err OutOfMemory) read = tt
