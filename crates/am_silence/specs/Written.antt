-- What the object of a posted body says, before it is judged.
use Rattle.std.specs.Prelude.{ℕ, Bool, true, false, ◌==◌, List, [], ◌∷◌, length, nat_le, is_some, Option, Some, None, Result, Ok, Err, if◌then◌else◌, codes}
use Rattle.serde_json.specs.Data.{Data, Items, no_items, item}
use Rattle.serde_json.specs.Find.{get, as_array, as_null, as_object}
use Rattle.am_text.specs.Outcome.{◌>>=◌}
use Rattle.am_json.specs.Reading.{flag_in, formed, moment_in, optional, required, text_in}
use Rattle.am_json.specs.declared.refusal.JsonRefusal.{JsonRefusal}
use Rattle.am_json.specs.declared.refusal.JsonRefusal.TheVariants.{BadForm}
use Rattle.am_match.specs.declared.matcher.Operator.{Operator}
use Rattle.am_match.specs.declared.matcher.Operator.TheVariants.{Equal, NotEqual, Match, NotMatch}
use Rattle.am_silence.specs.declared.written.Written.{Written}
use Rattle.am_silence.specs.declared.written.WrittenMatcher.{WrittenMatcher}

-- the operator that two flags name
abbrev pub operator_of : (is_regex is_equal : Bool) → Operator
operator_of false true = Equal
operator_of false false = NotEqual
operator_of true true = Match
operator_of true false = NotMatch

-- one matcher: `isEqual` may be absent, and is then true
unfoldable pub matcher_in : Data → Result WrittenMatcher JsonRefusal
matcher_in d = do
  members ← formed (as_object d)
  is_equal ← optional true flag_in (get (codes "isEqual") d)
  is_regex ← required flag_in (get (codes "isRegex") d)
  name ← required text_in (get (codes "name") d)
  value ← required text_in (get (codes "value") d)
  Ok (record { operator = operator_of is_regex is_equal; name = name; value = value })

-- those of a list, in its order
abbrev pub matchers_of : Items → Result (List WrittenMatcher) JsonRefusal
matchers_of no_items = Ok []
matchers_of (item d ds) = do
  matcher ← matcher_in d
  matchers ← matchers_of ds
  Ok (matcher ∷ matchers)

-- the most matchers of a silence
abbrev pub most_matchers : ℕ
most_matchers = 64

abbrev pub few : List WrittenMatcher → Result (List WrittenMatcher) JsonRefusal
few matchers = if nat_le (length matchers) most_matchers then Ok matchers else Err BadForm

-- the list of them, of at most `most_matchers`
unfoldable pub matchers_in : Data → Result (List WrittenMatcher) JsonRefusal
matchers_in d = do
  ds ← formed (as_array d)
  matchers ← matchers_of ds
  few matchers

-- an empty text names nothing
abbrev pub unless_empty : List ℕ → Option (List ℕ)
unless_empty text = if length text == 0 then None else Some text

-- an identifier may be null or empty, which is as if it were absent
abbrev pub id_in : Data → Result (Option (List ℕ)) JsonRefusal
id_in d = if is_some (as_null d) then Ok None else (text_in d >>= λ text. Ok (unless_empty text))

-- a moment that must be there; the absent instant isn't
abbrev pub required_moment : List ℕ → Data → Result ℕ JsonRefusal
required_moment key d = optional None moment_in (get key d) >>= λ found. formed found

-- everything that the object says; keys of other names are passed over
unfoldable pub written_of : Data → Result Written JsonRefusal
written_of d = do
  members ← formed (as_object d)
  id ← optional None id_in (get (codes "id") d)
  matchers ← required matchers_in (get (codes "matchers") d)
  starts_at ← required_moment (codes "startsAt") d
  ends_at ← required_moment (codes "endsAt") d
  created_by ← required text_in (get (codes "createdBy") d)
  comment ← required text_in (get (codes "comment") d)
  Ok (record {
    id = id;
    matchers = matchers;
    starts_at = starts_at;
    ends_at = ends_at;
    created_by = created_by;
    comment = comment;
  })
