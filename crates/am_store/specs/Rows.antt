-- The rows that spell what is stored.
use Rattle.std.specs.Prelude.{◌≡◌, ◌+◌, ◌<◌, ◌≤◌, ◌^◌, ℕ, ℤ, pos, List, [], ◌∷◌, ◌++◌, map, All, IsTrue, IsUtf8, IfSome}
use Rattle.std.specs.Prelude.{Option, Some, None, Ok, Err, unwrap_or}
use Rattle.std.specs.List.{AllByRecursion}
use Rattle.sqlite.specs.declared.types.Value.{Value}
use Rattle.sqlite.specs.declared.types.Value.TheVariants.{Null, Int, Text, Blob}
use Rattle.sqlite.specs.Order.{Row, bytes, column}
use Rattle.sqlite.specs.Tree.{Trees}
use Rattle.sqlite.specs.Effect.{Database}
use Rattle.uuid.specs.Text.{hyphenated_text, lower, parsed}
use Rattle.am_text.specs.Moment.{greatest_moment}
use Rattle.am_tenant.specs.Names.{is_tenant_name}
use Rattle.am_match.specs.Matchers.{IsMatcher, MatcherText}
use Rattle.am_match.specs.Spelling.{IsSpellable, spelling}
use Rattle.am_match.specs.Taking.{Taken, taken}
use Rattle.am_item.specs.Counts.{greatest_count}
use Rattle.am_item.specs.declared.stamp.Stamp.{Stamp}
use Rattle.am_store.specs.Apart.{AreApart}
use Rattle.am_store.specs.Stored.{ConfigurationText, SilenceText, SilenceWords, Stored, stamped}
use Rattle.am_store.specs.Tables.{store_schema}

-- ---- what rows spell

-- the four columns of a stamp
abbrev pub stamp_fields : Stamp → Row
stamp_fields s = Int (pos s.moment) ∷ Int (pos s.instance) ∷ Int (pos s.incarnation) ∷ Int (pos s.count) ∷ []

abbrev pub body_value : Option (List ℕ) → Value
body_value None = Null
body_value (Some text) = Blob text

-- the columns of a configuration
abbrev pub config_fields : List ℕ → Stamp → Option (List ℕ) → Row
config_fields tenant stamp body = Text tenant ∷ body_value body ∷ stamp_fields stamp

-- an identifier is spelled by hexadecimal digits with hyphens
abbrev pub id_text : List ℕ → List ℕ
id_text id = hyphenated_text lower id

-- the columns of a silence
abbrev pub silence_fields : List ℕ → Stamp → SilenceText → Row
silence_fields tenant stamp s =
    Text tenant
    ∷ Text (id_text s.id)
    ∷ Int (pos s.starts_at)
    ∷ Int (pos s.ends_at)
    ∷ Int (pos s.kept_until)
    ∷ Blob s.created_by
    ∷ Blob s.comment
    ∷ Blob (spelling s.matchers)
    ∷ stamp_fields stamp

-- ---- what may be stored

-- a stamp: an instance from 1 to 8, a count up to the greatest
pub record IsStamp (s : Stamp) : Type 0 where
  pub moment : s.moment ≤ greatest_moment
  pub first : 1 ≤ s.instance
  pub last : s.instance ≤ 8
  pub incarnation : s.incarnation < 2 ^ 32
  pub count : s.count ≤ greatest_count

-- a silence: its identifier is read back from its text, as 16 bytes are, and its matchers can be written as bytes
pub record IsSilence (s : SilenceText) : Type 0 where
  pub id : parsed (id_text s.id) ≡ Some s.id
  pub starts_at : s.starts_at ≤ greatest_moment
  pub ends_at : s.ends_at ≤ greatest_moment
  pub kept_until : s.kept_until ≤ greatest_moment
  pub created_by : IsUtf8 s.created_by
  pub comment : IsUtf8 s.comment
  pub spellable : IsSpellable s.matchers
  pub matchers : All IsMatcher s.matchers

-- the row is that of a configuration of a tenant
pub record IsConfig (row : Row) : Type 0 where
  pub rowid : ℤ
  pub tenant : List ℕ
  pub stamp : Stamp
  pub body : Option (List ℕ)
  pub is : row ≡ Int rowid ∷ config_fields tenant stamp body
  pub named : IsTrue (is_tenant_name tenant)
  pub stamped : IsStamp stamp
  pub text : IfSome body IsUtf8

-- the row is that of a silence of a tenant
pub record IsSilenceRow (row : Row) : Type 0 where
  pub rowid : ℤ
  pub tenant : List ℕ
  pub stamp : Stamp
  pub silence : SilenceText
  pub is : row ≡ Int rowid ∷ silence_fields tenant stamp silence
  pub named : IsTrue (is_tenant_name tenant)
  pub stamped : IsStamp stamp
  pub valid : IsSilence silence

-- ---- what a database stores

-- a store: its tables are those of schema 1, its version is 1, and each row is one of a tenant
pub record IsStore (db : Database) : Type 0 where
  pub schema : db.schema ≡ store_schema
  pub version : (id : ℤ) × (db.trees 0 ≡ (Int id ∷ Int (pos 1) ∷ []) ∷ [])
  pub configs : AllByRecursion IsConfig (db.trees 1)
  pub configs_apart : AreApart (db.trees 1)
  pub silences : AllByRecursion IsSilenceRow (db.trees 3)
  pub silences_apart : AreApart (db.trees 3)

-- a number of a column
abbrev pub number_in : Value → ℕ
number_in (Int (pos n)) = n
number_in _ = 0

-- the stamp whose columns begin there
abbrev pub stamp_at : Row → ℕ → Stamp
stamp_at row at = record {
  moment = number_in (column row at);
  instance = number_in (column row (at + 1));
  incarnation = number_in (column row (at + 2));
  count = number_in (column row (at + 3));
}

abbrev pub body_in : Value → Option (List ℕ)
body_in Null = None
body_in v = Some (bytes v)

abbrev pub matchers_in : Taken (List MatcherText) → List MatcherText
matchers_in (Ok taken) = taken.0
matchers_in (Err _) = []

-- what a row of configurations says, with its tenant
abbrev pub config_in : Row → List ℕ × Stored
config_in row = (bytes (column row 1), stamped (stamp_at row 3) (ConfigurationText (body_in (column row 2))))

-- what a row of silences says, with its tenant
abbrev pub silence_in : Row → List ℕ × Stored
silence_in row = (
  bytes (column row 1),
  stamped (stamp_at row 9) (SilenceWords (record {
    id = unwrap_or (parsed (bytes (column row 2))) [];
    starts_at = number_in (column row 3);
    ends_at = number_in (column row 4);
    kept_until = number_in (column row 5);
    created_by = bytes (column row 6);
    comment = bytes (column row 7);
    matchers = matchers_in (taken (bytes (column row 8)));
  })),
)

-- what is stored of all tenants
unfoldable pub pairs_in : Trees → List (List ℕ × Stored)
pairs_in trees = map config_in (trees 1) ++ map silence_in (trees 3)
