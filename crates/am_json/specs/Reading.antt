-- What is read of JSON: the value of bytes, of which form a value must be, and what stands for one that is absent.
use Rattle.std.specs.Prelude.{ℕ, Bool, List, [], ◌∷◌, Option, Some, None, option_and_then, Result, Ok, Err, if◌then◌else◌}
use Rattle.std.specs.Str.{is_utf8}
use Rattle.serde_json.specs.Data.{Data, Items, no_items, item, Members, no_members, member}
use Rattle.serde_json.specs.Find.{as_array, as_bool, as_number, as_object, as_str, as_u64}
use Rattle.serde_json.specs.Read.{read}
use Rattle.am_text.specs.Outcome.{◌>>=◌}
use Rattle.am_text.specs.Reading.{moment_of}
use Rattle.am_labels.specs.declared.Label.{Label}
use Rattle.am_json.specs.declared.refusal.JsonRefusal.{JsonRefusal}
use Rattle.am_json.specs.declared.refusal.JsonRefusal.TheVariants.{NotJson, BadForm}

-- what must be JSON
abbrev pub is_json : {A : Type 0} → Option A → Result A JsonRefusal
is_json None = Err NotJson
is_json (Some x) = Ok x

-- the JSON value that the bytes are: UTF-8, at most 127 deep, each number within a float's range
abbrev pub json : List ℕ → Result Data JsonRefusal
json bytes = is_json (if is_utf8 bytes then read bytes else None)

-- what must be of its form
abbrev pub formed : {A : Type 0} → Option A → Result A JsonRefusal
formed None = Err BadForm
formed (Some x) = Ok x

-- a value that may be absent: what stands for the absent one, and how a present one is read
abbrev pub optional : {A : Type 0} → A → (Data → Result A JsonRefusal) → Option Data → Result A JsonRefusal
optional absent present None = Ok absent
optional absent present (Some d) = present d

-- a value that must be there
abbrev pub required : {A : Type 0} → (Data → Result A JsonRefusal) → Option Data → Result A JsonRefusal
required present None = Err BadForm
required present (Some d) = present d

abbrev pub text_in : Data → Result (List ℕ) JsonRefusal
text_in d = formed (as_str d)

-- a text, where another may be absent
abbrev pub some_text_in : Data → Result (Option (List ℕ)) JsonRefusal
some_text_in d = text_in d >>= λ text. Ok (Some text)

-- a text that is a moment; the absent instant is no moment
abbrev pub moment_in : Data → Result (Option ℕ) JsonRefusal
moment_in d = formed (as_str d) >>= λ text. formed (moment_of text)

abbrev pub flag_in : Data → Result Bool JsonRefusal
flag_in d = formed (as_bool d)

-- a whole number of at most 64 bits, written without sign, fraction and exponent
abbrev pub count_in : Data → Result ℕ JsonRefusal
count_in d = formed (option_and_then as_u64 (as_number d))

abbrev pub texts_of : Items → Result (List (List ℕ)) JsonRefusal
texts_of no_items = Ok []
texts_of (item d ds) = do
  text ← text_in d
  texts ← texts_of ds
  Ok (text ∷ texts)

-- a list of texts
abbrev pub texts_in : Data → Result (List (List ℕ)) JsonRefusal
texts_in d = formed (as_array d) >>= texts_of

abbrev pub pairs_of : Members → Result (List Label) JsonRefusal
pairs_of no_members = Ok []
pairs_of (member name d ms) = do
  text ← text_in d
  pairs ← pairs_of ms
  Ok (record { name = name; value = text } ∷ pairs)

-- an object of texts, as names and values in order of name
abbrev pub pairs_in : Data → Result (List Label) JsonRefusal
pairs_in d = formed (as_object d) >>= pairs_of
