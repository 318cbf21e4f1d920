-- What calls that ask leave in a cache, one after the other.
use Rattle.std.proofs.Common.{◌≡◌, ℕ, List, [], ◌++◌, Bool, true, ◌||◌, Result, Ok, Err, refl, sym, ap, ◌∙◌, append-nil, append_assoc}
use Rattle.std.proofs.lemmas.List.Elements.{All-nil, All-append}
use Rattle.std.proofs.lemmas.List.Folds.{list_any-append}
use Rattle.am_pattern.specs.Cache.{Cache}
use Rattle.am_pattern.specs.Taking.{IsPattern}
use Rattle.am_pattern.specs.Refused.{has_text, IsReasonOf, IsRefusedRightly}
use Rattle.am_pattern.specs.Asking.{Stays, Grows, Asked, IsRefused}
use Rattle.am_pattern.specs.declared.refusal.PatternRefusal.{PatternRefusal}
use Rattle.am_pattern.specs.declared.refusal.PatternRefusal.TheVariants.{BadPattern, BuildRefused}
use Rattle.am_pattern.proofs.ReadLemmas.{reason-unshallow}

-- a cache that nobody asked
pub stays-refl : (c : Cache) → Stays c c
stays-refl c = record { refused = refl; capacity = refl }

pub stays-trans : (a b c : Cache) → Stays a b → Stays b c → Stays a c
stays-trans a b c first next = record { refused = next.refused ∙ first.refused; capacity = next.capacity ∙ first.capacity }

pub grows-stays : (a b : Cache) → Stays a b → Grows a b
grows-stays a b stays =
    record { more = []; refused = stays.refused ∙ sym (append-nil a.refused); patterns = All-nil IsPattern; capacity = stays.capacity }

pub grows-refl : (c : Cache) → Grows c c
grows-refl c = grows-stays c c (stays-refl c)

pub grows-trans : (a b c : Cache) → Grows a b → Grows b c → Grows a c
grows-trans a b c first next =
    record {
      more = first.more ++ next.more;
      refused = next.refused ∙ ap (λ texts. texts ++ next.more) first.refused ∙ simp append_assoc;
      patterns = All-append IsPattern first.more next.more first.patterns next.patterns;
      capacity = next.capacity ∙ first.capacity;
    }

-- a call that succeeds
pub asked-ok : {X : Type 0} (E : Type 0) (x : X) (a b : Cache) → Stays a b → Asked {X = X} {E = E} (Ok x) a b
asked-ok E x a b stays = stays

-- one that fails
pub asked-err : (X : Type 0) {E : Type 0} (e : E) (a b : Cache) → Grows a b → Asked {X = X} {E = E} (Err e) a b
asked-err X e a b grows = grows

module _ {X E : Type 0} where
  -- whatever was returned
  pub grows-asked : (r : Result X E) (a b : Cache) → Asked r a b → Grows a b
  grows-asked (Ok x) a b asked = grows-stays a b asked
  grows-asked (Err e) a b asked = asked

  -- after calls that succeeded
  pub asked-after : (r : Result X E) (a b c : Cache) → Stays a b → Asked r b c → Asked r a c
  asked-after (Ok x) a b c stays asked = stays-trans a b c stays asked
  asked-after (Err e) a b c stays asked = grows-trans a b c (grows-stays a b stays) asked

  -- a call that asks nobody
  pub asked-refl : (r : Result X E) (c : Cache) → Asked r c c
  asked-refl (Ok x) c = stays-refl c
  asked-refl (Err e) c = grows-refl c

true_or : (b : Bool) → (true || b) ≡ true
true_or b = refl

-- a refused text stays one
pub has_text-grows : (a b : Cache) (p : List ℕ) → Grows a b → has_text a.refused p ≡ true → has_text b.refused p ≡ true
has_text-grows a b p grows there = rw (grows.refused, list_any-append, there) refl

-- so does a refusal
pub refused-grows : (a b : Cache) (p : List ℕ) (refusal : PatternRefusal) → Grows a b → IsRefused a p refusal → IsRefused b p refusal
refused-grows a b p BadPattern grows (deep, there) = (deep, λ pattern. has_text-grows a b p grows (there pattern))
refused-grows a b p BuildRefused grows (shallow, pattern, there) = (shallow, pattern, has_text-grows a b p grows there)

-- where no build of the text was refused, it is no pattern
pub refused-rightly : (c : Cache) (p : List ℕ) (refusal : PatternRefusal) → IsRefused c p refusal → IsRefusedRightly c.refused p →
    (refusal ≡ BadPattern) × ¬ IsPattern p
refused-rightly c p BadPattern (deep, there) rightly = (refl, λ pattern. rightly (there pattern) pattern)
refused-rightly c p BuildRefused (shallow, pattern, there) rightly = absurd (rightly there pattern)

-- the reason that the text itself gives
pub reason-refused : (c : Cache) (p : List ℕ) (refusal : PatternRefusal) → IsRefused c p refusal → IsReasonOf p refusal
reason-refused c p BadPattern (deep, there) = reason-unshallow p deep
reason-refused c p BuildRefused (shallow, pattern, there) = pattern
