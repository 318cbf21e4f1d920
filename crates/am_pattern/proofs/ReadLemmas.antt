-- From the clauses of the `regex` crate to the words of this one.
use Rattle.std.proofs.Common.{◌≡◌, ◌≢◌, ℕ, ◌<◌, ◌≤◌, ◌⊎◌, List, true, false, Option, None, Some, IsSomeAnd, IfSome, is_some, nat_le, length, get_or, chars, Result, Ok, Err, IfOk, refl, sym, inl, inr, ⊎_elim, true≢false, ap, ◌∙◌, arith}
use Rattle.std.proofs.lemmas.Bool.{cases_Bool, and_parts}
use Rattle.std.proofs.lemmas.Bool.Decides.{leb_tells}
use Rattle.regex.specs.Patterns.{default_config, find_str, Re, Reads, Refuses, SameCaptures}
use Rattle.regex.specs.Strings.{regex_source, regex_config, regex_pattern, regex_names, IsReadFromSource}
use Rattle.regex.specs.Failures as regex
use Rattle.regex.specs.declared.string.regex.Regex.{Regex}
use Rattle.regex.proofs.ForCallers.{is_match_alike}
use Rattle.regex_syntax.specs.Grammar.{read, Names, group_count}
use Rattle.regex_syntax.specs.Brackets.{Nested}
use Rattle.regex_syntax.specs.declared.error.ErrorKind.{ErrorKind}
use Rattle.regex_syntax.specs.declared.error.ErrorKind.TheVariants as kind
use Rattle.am_pattern.specs.Taking.{IsRead, is_read, IsTooDeep, IsPattern, is_within, is_parsed, is_shallow, anchored, has_match, found_in}
use Rattle.am_pattern.specs.Refused.{IsReasonOf, IsReadingCause}
use Rattle.am_pattern.specs.declared.reading.Cause.{Cause}
use Rattle.am_pattern.specs.declared.reading.Cause.TheVariants.{NotRead, TooDeep, TooBig}
use Rattle.am_pattern.specs.declared.refusal.PatternRefusal.TheVariants.{BadPattern}

-- two readings of one text find alike
found_alike : (o : Option (Nested Re × Names)) (most : ℕ) (re : Re) (names : Names) →
    IsSomeAnd o (λ (found, all).
    (found.depth ≤ most) × SameCaptures re found.value × (names ≡ all) × (group_count re ≤ length names)) →
    (v : List ℕ) → ((k : ℕ) → get_or v k 0 < 256) → is_some (find_str re v 0) ≡ found_in o v
found_alike None most re names p v bytes = absurd p
found_alike (Some (found, all)) most re names p v bytes = is_match_alike p.1 v bytes true 0

-- a regex that was read from its source finds a match where what its source is read as has one
pub is_match_as_read : (r : Regex) → regex_config r ≡ default_config → IsReadFromSource r →
    (v : List ℕ) → ((k : ℕ) → get_or v k 0 < 256) → is_some (find_str (regex_pattern r) v 0) ≡ has_match (regex_source r) v
unfolding Reads has_match
is_match_as_read r config reads v bytes =
    let reads' = rw config at reads in
    found_alike (read default_config (chars (regex_source r))) default_config.nest_limit (regex_pattern r)
    (regex_names r) reads' v bytes

-- a number is within a bound where it is no greater
le_test : (n most : ℕ) → n ≤ most → nat_le n most ≡ true
le_test n most le = ⊎_elim (λ h. h.0) (λ h. absurd (omega (arith, h.1, le))) (leb_tells n most)

lt_test : (n most : ℕ) → most < n → nat_le n most ≡ false
lt_test n most lt = ⊎_elim (λ h. absurd (omega (arith, h.1, lt))) (λ h. h.0) (leb_tells n most)

-- what nests no deeper is within
within_of : (o : Option (Nested Re × Names)) (most : ℕ) (P : Nested Re × Names → Type 0) → IsSomeAnd o P →
    ((x : Nested Re × Names) → P x → x.0.depth ≤ most) → is_within most o ≡ true
within_of None most P p bound = absurd p
within_of (Some (found, names)) most P p bound = le_test found.depth most (bound (found, names) p)

-- what is read within the limit is parsed
pub parsed-Reads : (text : List ℕ) → regex.IsPattern default_config text → is_parsed text ≡ true
unfolding Reads is_parsed
parsed-Reads text p = within_of (read default_config (chars text)) default_config.nest_limit _ p.2 (λ x h. h.0)

-- so is the source of a regex
pub parsed-source : (r : Regex) → regex_config r ≡ default_config → IsReadFromSource r → is_parsed (regex_source r) ≡ true
unfolding Reads is_parsed
parsed-source r config reads =
    let reads' = rw config at reads in
    within_of (read default_config (chars (regex_source r))) default_config.nest_limit _ reads' (λ x h. h.0)

-- what is deeper isn't within
not_within : (o : Option (Nested Re × Names)) (most : ℕ) → IfSome o (λ (found, _). most < found.depth) → is_within most o ≡ false
not_within None most deep = refl
not_within (Some (found, names)) most deep = lt_test found.depth most deep

-- a text that was refused, though not for memory, isn't parsed
pub unparsed-Refuses : (text : List ℕ) (k : ErrorKind) → Refuses default_config text k → k ≢ kind.OutOfMemory →
    is_parsed text ≡ false
unfolding Refuses is_parsed
unparsed-Refuses text k refused other =
    ⊎_elim
    (λ memory. absurd (other memory))
    (⊎_elim
    (λ none. ap (is_within default_config.nest_limit) none)
    (λ deep. not_within (read default_config (chars text)) default_config.nest_limit deep.1))
    refused

-- and where that was not for its depth, it isn't read
pub unread-Refuses : (text : List ℕ) (k : ErrorKind) → Refuses default_config text k → k ≢ kind.OutOfMemory →
    k ≢ kind.NestLimitExceeded → ¬ IsRead text
unfolding Refuses is_read
unread-Refuses text k refused other shallow =
    ⊎_elim
    (λ memory. absurd (other memory))
    (⊎_elim (λ none e. true≢false (sym e ∙ ap is_some none)) (λ deep. absurd (shallow deep.0)))
    refused

some_within : (o : Option (Nested Re × Names)) (most : ℕ) → is_within most o ≡ true → is_some o ≡ true
some_within None most e = absurd (true≢false (sym e))
some_within (Some found) most e = refl

-- what is parsed is read
pub IsRead-parsed : (text : List ℕ) → is_parsed text ≡ true → IsRead text
unfolding is_parsed is_read
IsRead-parsed text e = some_within (read default_config (chars text)) default_config.nest_limit e

none_or_deep : (o : Option (Nested Re × Names)) (most : ℕ) → is_within most o ≡ false →
    (¬ (is_some o ≡ true)) ⊎ IsSomeAnd o (λ (found, _). most < found.depth)
none_or_deep None most e = inl (λ s. true≢false (sym s))
none_or_deep (Some (found, names)) most e =
    inr (⊎_elim (λ h. absurd (true≢false (sym h.0 ∙ e))) (λ h. h.1) (leb_tells found.depth most))

-- what isn't parsed isn't read or nests too deep
unparsed_why : (text : List ℕ) → is_parsed text ≡ false → (¬ IsRead text) ⊎ IsTooDeep text
unfolding is_parsed is_read IsTooDeep
unparsed_why text e = none_or_deep (read default_config (chars text)) default_config.nest_limit e

-- a shallow text is a pattern
pub pattern-shallow : (p : List ℕ) → is_shallow p ≡ true → IsPattern p
pattern-shallow p e =
    let parts = and_parts (nat_le (length p) 256) _ e in
    let reads = and_parts (is_parsed p) (is_parsed (anchored p)) parts.1 in
    ⊎_elim
    (λ short. (short.1, IsRead-parsed p reads.0, IsRead-parsed (anchored p) reads.1))
    (λ long. absurd (true≢false (sym parts.0 ∙ long.0)))
    (leb_tells (length p) 256)

-- the same of a text for which something was returned
pub pattern-ok : {X E : Type 0} (result : Result X E) (p : List ℕ) → IfOk result (λ _. is_shallow p ≡ true) → IfOk result (λ _. IsPattern p)
pattern-ok (Ok x) p shallow = pattern-shallow p shallow
pattern-ok (Err e) p shallow = tt

-- what is no pattern isn't shallow
pub unshallow-pattern : (p : List ℕ) → (¬ IsPattern p) → is_shallow p ≡ false
unshallow-pattern p none =
    elim (cases_Bool (is_shallow p)) [ inl e ↦ absurd (none (pattern-shallow p e)) | inr e ↦ e ]

-- a text that isn't shallow is no pattern, or nests too deep
pub reason-unshallow : (p : List ℕ) → is_shallow p ≡ false → IsReasonOf p BadPattern
reason-unshallow p e =
    elim (leb_tells (length p) 256) [
      | inr long ↦ inl (λ pattern. omega (arith, long.1, pattern.0))
      | inl short ↦ elim (cases_Bool (is_parsed p)) [
        | inr alone ↦ ⊎_elim (λ none. inl (λ pattern. none pattern.1)) (λ deep. inr (inl deep)) (unparsed_why p alone)
        | inl alone ↦ ⊎_elim
            (λ none. inl (λ pattern. none pattern.2))
            (λ deep. inr (inr deep))
            (unparsed_why (anchored p) (rw (short.0, alone) at e))
      ]
    ]

-- a text that the grammar refuses isn't parsed
pub unparsed-cause : (text : List ℕ) (cause : Cause) → IsReadingCause text cause → is_parsed text ≡ false
unparsed-cause text NotRead none =
    elim (cases_Bool (is_parsed text)) [ inl e ↦ absurd (none (IsRead-parsed text e)) | inr e ↦ e ]
unparsed-cause text TooDeep deep = deep
unparsed-cause text TooBig is = absurd is
