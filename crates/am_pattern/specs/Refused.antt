-- Why a text is refused as a pattern, and which texts are kept as refused.
use Rattle.std.specs.Prelude.{◌≡◌, ℕ, true, false, ◌⊎◌, ◌++◌, ◌∷◌, [], List, Bool, filter, Result, Ok, Err, if◌then◌else◌, codes}
use Rattle.std.specs.List.{list_any}
use Rattle.std.specs.Str.{bytes_eq}
use Rattle.am_text.specs.declared.failure.Failure.{Failure}
use Rattle.am_text.specs.declared.failure.Failure.TheVariants.{Refused, OutOfMemory}
use Rattle.am_text.specs.Outcome.{ForRefused}
use Rattle.am_pattern.specs.declared.refusal.PatternRefusal.{PatternRefusal}
use Rattle.am_pattern.specs.declared.refusal.PatternRefusal.TheVariants.{BadPattern, BuildRefused}
use Rattle.am_pattern.specs.declared.reading.Cause.{Cause}
use Rattle.am_pattern.specs.declared.reading.Cause.TheVariants.{NotRead, TooDeep, TooBig}
use Rattle.am_pattern.specs.Taking.{IsRead, IsTooDeep, IsPattern, is_pattern, is_parsed, is_shallow, anchored, takes}

-- the code that a refusal carries
abbrev pub code_of : PatternRefusal → List ℕ
code_of BadPattern = codes "M2"
code_of BuildRefused = codes "B2"

-- why a text may give no regex when it is built as it stands
abbrev pub IsBuildingCause : List ℕ → Cause → Type 0
IsBuildingCause text NotRead = ¬ IsRead text
IsBuildingCause text TooDeep = is_parsed text ≡ false
IsBuildingCause text TooBig = is_parsed text ≡ true

-- why it may be refused when it is read as it stands
abbrev pub IsReadingCause : List ℕ → Cause → Type 0
IsReadingCause text NotRead = ¬ IsRead text
IsReadingCause text TooDeep = is_parsed text ≡ false
IsReadingCause text TooBig = ⊥

-- why it may give no regex as a pattern
abbrev pub IsPatternCause : List ℕ → Cause → Type 0
IsPatternCause p NotRead = ¬ IsPattern p
IsPatternCause p TooDeep = is_shallow p ≡ false
IsPatternCause p TooBig = is_shallow p ≡ true

-- why a text may be refused as a pattern: it is none or nests too deep; or it is one
abbrev pub IsReasonOf : List ℕ → PatternRefusal → Type 0
IsReasonOf p BadPattern = (¬ IsPattern p) ⊎ (IsTooDeep p ⊎ IsTooDeep (anchored p))
IsReasonOf p BuildRefused = IsPattern p

-- a failure that a text may get as a pattern
abbrev pub IsCauseOf : List ℕ → Failure PatternRefusal → Type 0
IsCauseOf p failure = ForRefused failure (IsReasonOf p)

-- the text is among these
abbrev pub has_text : List (List ℕ) → List ℕ → Bool
has_text texts p = list_any (bytes_eq p) texts

-- the patterns among these texts
abbrev pub patterns_among : List (List ℕ) → List (List ℕ)
patterns_among texts = filter is_pattern texts

-- the texts with one more, where it is not among them
abbrev pub with_text : List (List ℕ) → List ℕ → List (List ℕ)
with_text texts p = if has_text texts p then texts else texts ++ p ∷ []

-- the texts with one more, where it is a pattern and not among them
abbrev pub noted : List (List ℕ) → List ℕ → List (List ℕ)
noted texts p = if is_pattern p then with_text texts p else texts

-- the texts that are held as refused once this one gave no regex: it is held unless the grammar didn't read it
abbrev pub held_after : List (List ℕ) → List ℕ → Cause → List (List ℕ)
held_after texts p NotRead = texts
held_after texts p TooDeep = with_text texts p
held_after texts p TooBig = with_text texts p

-- what an answer leaves held: a pattern whose build was refused, and it may be a text that is too deep; else the same
abbrev pub IsHeldAfter : {X : Type 0} → List (List ℕ) → List (List ℕ) → List ℕ → Result X (Failure PatternRefusal) → Type 0
IsHeldAfter old new p (Ok _) = new ≡ old
IsHeldAfter old new p (Err (Refused BadPattern)) = (new ≡ old) ⊎ ((new ≡ with_text old p) × (is_shallow p ≡ false))
IsHeldAfter old new p (Err (Refused BuildRefused)) = new ≡ with_text old p
IsHeldAfter old new p (Err OutOfMemory) = new ≡ old

-- the refused texts after an answer: one more where the build was refused for another cause than memory
abbrev pub refused_after : {X : Type 0} → List (List ℕ) → List ℕ → Result X (Failure PatternRefusal) → List (List ℕ)
refused_after texts p (Ok _) = texts
refused_after texts p (Err (Refused refusal)) = noted texts p
refused_after texts p (Err OutOfMemory) = texts

-- where the text is among the refused ones, it is no pattern
abbrev pub IsRefusedRightly : List (List ℕ) → List ℕ → Type 0
IsRefusedRightly texts p = has_text texts p ≡ true → ¬ IsPattern p

-- the answer is the meaning, memory aside: refused for no pattern alone, else whether it takes the value
abbrev pub IsMeaningOf : List ℕ → List ℕ → Result Bool (Failure PatternRefusal) → Type 0
IsMeaningOf p value (Ok taken) = IsPattern p × (taken ≡ takes p value)
IsMeaningOf p value (Err (Refused BadPattern)) = ¬ IsPattern p
IsMeaningOf p value (Err (Refused BuildRefused)) = ⊥
IsMeaningOf p value (Err OutOfMemory) = Unit {0}
