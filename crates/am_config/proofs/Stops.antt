-- How texts of matchers are read one after another.
use Rattle.std.proofs.Common.{◌≡◌, ℕ, suc, ◌<◌, ◌+◌, Bool, List, [], ◌∷◌, ◌++◌, true, false, Some, None, Option, length, take, drop, get_or, chars, refl, sym, ap, ◌∙◌, arith, append_assoc, append-nil}
use Rattle.std.specs.Prelude.{map, ◌&&◌}
use Rattle.std.specs.List.{list_all, flat_map}
use Rattle.std.proofs.lemmas.Bool.{and_from}
use Rattle.std.proofs.lemmas.Grind.{flat_map-append}
use Rattle.std.proofs.lemmas.List.{take_more, take-append-drop, map-append}
use Rattle.std.proofs.lemmas.List.Folds.{list_all-append}
use Rattle.std.proofs.Math.Seq.{drop-cons}
use Rattle.am_text.specs.Outcome.{ForRefused}
use Rattle.am_text.specs.declared.failure.Failure.{Failure}
use Rattle.am_text.specs.declared.failure.Failure.TheVariants.{Refused, OutOfMemory}
use Rattle.am_pattern.specs.Asking.{Stays}
use Rattle.am_pattern.specs.Cache.{Cache}
use Rattle.am_pattern.specs.Refused.{noted}
use Rattle.am_pattern.proofs.AskingLemmas.{stays-trans}
use Rattle.am_match.specs.declared.refusal.MatcherRefusal.{MatcherRefusal}
use Rattle.am_match.specs.declared.refusal.MatcherRefusal.TheVariants as matcher
use Rattle.am_match.specs.Checking.{IsTextFailure, IsTextRefusal}
use Rattle.am_match.specs.Matchers.{MatcherText}
use Rattle.am_match.specs.Reading.{matchers_of}
use Rattle.am_config.specs.declared.refusal.ConfigRefusal.{ConfigRefusal}
use Rattle.am_config.specs.declared.refusal.ConfigRefusal.TheVariants.{BadMatcher}
use Rattle.am_config.specs.Matching.{meaning, given, matchers_in, reads_matchers}
use Rattle.am_config.specs.Refusals.{of_matcher}
use Rattle.am_config.specs.Stopping.{StopsAt, IsStopOf}

-- the reading of one text stops there
stop_here : (text : List ℕ) (old new : Cache) (cause : MatcherRefusal) → IsTextRefusal (matchers_of (chars text)) old new cause →
    StopsAt (text ∷ []) (of_matcher cause) old new
stop_here text old new cause found = record {
  front = [];
  text = text;
  back = [];
  cause = cause;
  order = refl;
  before = refl;
  refuses = refl;
  is_refusal = found;
}

pub stop_refused : (text : List ℕ) (old new : Cache) (failure : Failure MatcherRefusal) (cause : MatcherRefusal) → failure ≡ Refused cause →
    IsTextFailure (matchers_of (chars text)) old new failure → StopsAt (text ∷ []) (of_matcher cause) old new
stop_refused text old new failure cause is found = stop_here text old new cause (rw is at found)

-- a refusal of a text, where nothing was refused before
refused_since : (spelled : Option (List MatcherText)) (start old new : Cache) (cause : MatcherRefusal) → Stays start old →
    IsTextRefusal spelled old new cause → IsTextRefusal spelled start new cause
refused_since None start old new matcher.NoMatchers stays found = stays-trans start old new stays found
refused_since None start old new matcher.BadPattern stays found = absurd found
refused_since None start old new matcher.LongPattern stays found = absurd found
refused_since None start old new matcher.BuildRefused stays found = absurd found
refused_since (Some ms) start old new matcher.NoMatchers stays found = absurd found
refused_since (Some ms) start old new matcher.BadPattern stays found =
    record {
      front = found.front;
      refused = found.refused;
      back = found.back;
      order = found.order;
      fine = found.fine;
      short = found.short;
      is_refused = found.is_refused;
      kept = found.kept ∙ ap (λ texts. noted texts found.refused) stays.refused;
    }
refused_since (Some ms) start old new matcher.LongPattern stays found = (found.0, found.1, stays-trans start old new stays found.2)
refused_since (Some ms) start old new matcher.BuildRefused stays found =
    record {
      front = found.front;
      refused = found.refused;
      back = found.back;
      order = found.order;
      fine = found.fine;
      short = found.short;
      is_refused = found.is_refused;
      kept = found.kept ∙ ap (λ texts. noted texts found.refused) stays.refused;
    }

pub both : (xs ys : List (List ℕ)) → list_all reads_matchers xs ≡ true → list_all reads_matchers ys ≡ true →
    list_all reads_matchers (xs ++ ys) ≡ true
both xs ys h k = list_all-append reads_matchers xs ys ∙ and_from _ _ h k

-- the stop, within more texts
pub stop_within : (front mid back : List (List ℕ)) (start old new : Cache) (failure : Failure ConfigRefusal) → list_all reads_matchers front ≡ true →
    Stays start old → IsStopOf mid old new failure → IsStopOf (front ++ (mid ++ back)) start new failure
stop_within front mid back start old new OutOfMemory before stays stop = stays-trans start old new stays stop
stop_within front mid back start old new (Refused refusal) before stays stop = record {
  front = front ++ stop.front;
  text = stop.text;
  back = stop.back ++ back;
  cause = stop.cause;
  order = rw stop.order (simp append_assoc);
  before = both front stop.front before stop.before;
  refuses = stop.refuses;
  is_refusal = refused_since _ start old new stop.cause stays stop.is_refusal;
}

module _ {A : Type 0} (texts : A → List (List ℕ)) (xs : List A) (i : ℕ) (x : A) (within : i < length xs) (is : x ≡ get_or xs i x) where
  -- the elements up to the one at i, that one, and those behind it
  parted : xs ≡ take i xs ++ (x ∷ drop (i + 1) xs)
  parted =
      let next : suc i ≡ i + 1 = omega arith in
      sym (take-append-drop i xs) ∙ ap (λ rest. take i xs ++ rest) (drop-cons xs i x within ∙ rw (← is, next))

  more : take (i + 1) xs ≡ take i xs ++ x ∷ []
  more = take_more xs i x within ∙ rw (← is)

  -- the texts up to the next element can be read
  pub read_more : list_all reads_matchers (flat_map texts (take i xs)) ≡ true → list_all reads_matchers (texts x) ≡ true →
      list_all reads_matchers (flat_map texts (take (i + 1) xs)) ≡ true
  read_more before here =
      rw (more, flat_map-append texts (take i xs) (x ∷ []))
      (both (flat_map texts (take i xs)) (texts x ++ []) before (both (texts x) [] here refl))

  -- the stop among the texts of one element is one among those of all
  pub stop_among : (start old new : Cache) (failure : Failure ConfigRefusal) → list_all reads_matchers (flat_map texts (take i xs)) ≡ true →
      Stays start old → IsStopOf (texts x) old new failure → IsStopOf (flat_map texts xs) start new failure
  stop_among start old new failure before stays stop =
      rw (parted, flat_map-append texts (take i xs) (x ∷ drop (i + 1) xs))
      (stop_within (flat_map texts (take i xs)) (texts x) (flat_map texts (drop (i + 1) xs)) start old new failure before stays stop)

  -- where one of them can't be read, not all can
  pub unread_among : list_all reads_matchers (texts x) ≡ false → list_all reads_matchers (flat_map texts xs) ≡ false
  unread_among fails =
      rw (parted, flat_map-append texts (take i xs) (x ∷ drop (i + 1) xs), list_all-append, list_all-append, fails)
      (never (list_all reads_matchers (flat_map texts (take i xs))) (list_all reads_matchers (flat_map texts (drop (i + 1) xs))))
    where
      never : (a b : Bool) → (a && (false && b)) ≡ false
      never true b = refl
      never false b = refl

module _ {A : Type 0} (texts : A → List (List ℕ)) (xs : List A) (i : ℕ) (x : A) (within : i < length xs) (is : x ≡ get_or xs i x) where
  -- the refusal of one is that of all
  pub refused_among : (failure : Failure ConfigRefusal) →
      ForRefused failure (λ refusal. (refusal ≡ BadMatcher) × (list_all reads_matchers (texts x) ≡ false)) →
      ForRefused failure (λ refusal. (refusal ≡ BadMatcher) × (list_all reads_matchers (flat_map texts xs) ≡ false))
  refused_among (Refused refusal) found = (found.0, unread_among texts xs i x within is found.1)
  refused_among OutOfMemory found = tt

module _ (xs : List (List ℕ)) (i : ℕ) (x : List ℕ) (within : i < length xs) (is : x ≡ get_or xs i x) where
  -- each text alone
  abbrev one : List ℕ → List (List ℕ)
  one text = text ∷ []

  -- the same of texts themselves
  pub text_read_more : list_all reads_matchers (take i xs) ≡ true → reads_matchers x ≡ true → list_all reads_matchers (take (i + 1) xs) ≡ true
  text_read_more before here =
      rw (more one xs i x within is) (both (take i xs) (x ∷ []) before (and_from _ _ here refl))

  pub text_stop_among : (start old new : Cache) (failure : Failure ConfigRefusal) → list_all reads_matchers (take i xs) ≡ true →
      Stays start old → IsStopOf (x ∷ []) old new failure → IsStopOf xs start new failure
  text_stop_among start old new failure before stays stop =
      rw (parted one xs i x within is) (stop_within (take i xs) (x ∷ []) (drop (i + 1) xs) start old new failure before stays stop)

  pub text_unread_among : reads_matchers x ≡ false → list_all reads_matchers xs ≡ false
  text_unread_among fails =
      rw (parted one xs i x within is, list_all-append, fails) (never (list_all reads_matchers (take i xs)))
    where
      never : (a : Bool) → (a && false) ≡ false
      never true = refl
      never false = refl

  pub matchers_more : matchers_in (take (i + 1) xs) ≡ matchers_in (take i xs) ++ given (meaning x)
  unfolding matchers_in
  matchers_more =
      rw (more one xs i x within is, flat_map-append (λ text. given (meaning text)) (take i xs) (x ∷ []))
      (ap (λ rest. flat_map (λ text. given (meaning text)) (take i xs) ++ rest) (append-nil (given (meaning x))))

-- one more of a list that is mapped
pub mapped_more : {A B : Type 0} (f : A → B) (xs : List A) (i : ℕ) (x : A) → i < length xs → x ≡ get_or xs i x →
    map f (take (i + 1) xs) ≡ map f (take i xs) ++ f x ∷ []
mapped_more f xs i x within is =
    rw (take_more xs i x within, ← is) (map-append f (take i xs) (x ∷ []))
