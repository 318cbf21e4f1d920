-- The values of a label in label sets, and a matcher that was asked of them.
use Rattle.std.specs.Prelude.{◌≡◌, ◌==◌, ℕ, Bool, List, All, Option, drop, length, map, replicate, true, if◌then◌else◌}
use Rattle.std.specs.BTreeMap.{BTreeMap}
use Rattle.std.specs.Borrow.{Bor}
use Rattle.std.specs.Global.{Vec}
use Rattle.std.specs.Option.{ForSome}
use Rattle.am_column.specs.Alike.{AreAlike}
use Rattle.am_column.specs.Places.{AreLists, found_at}
use Rattle.am_labels.specs.Sets.{IsLabelSet}
use Rattle.am_labels.specs.declared.Label.{Label}
use Rattle.am_match.specs.Matchers.{MatcherText}
use Rattle.am_table.specs.Narrowing.{narrowed, narrowed_by}
use Rattle.am_table.specs.Holders.{Shown, holders_from, none_hold, with_holders}
use Rattle.am_table.specs.declared.column.Answered.{Answered}
use Rattle.am_table.specs.declared.column.Column.{Column}
use Rattle.am_table.specs.declared.column.Index.{Index}

-- the values that a column has: the empty one, and those of the label sets that have the label
abbrev pub values_in : Column → List (List ℕ)
values_in column = map (λ value. value.now) column.values.now

-- with the places of these
abbrev pub shown_in : Column → Shown
shown_in column = (column.places.now, values_in column)

-- it is the label of this name in these label sets
pub record IsColumnOf (name : List ℕ) (sets : List (List Label)) (column : Column) : Type 0 where
  pub label_sets : All IsLabelSet sets
  pub shown : shown_in column ≡ with_holders (holders_from 0 name sets) none_hold

-- of label sets of which the column tells a label, those that are taken once the matcher on it was asked
abbrev pub IsNarrowedBy : MatcherText → Column → List Bool → List Bool → Type 0
IsNarrowedBy m column old new =
    (sets : List (List Label)) → IsColumnOf m.name sets column → length old ≡ length sets → new ≡ narrowed m sets old

-- the places are those of equal ones of these values, and those of each value but the first, which stand at `holders`
pub record IsIndexOf (holders : List ℕ) (values : List (List ℕ)) (index : Index) : Type 0 where
  pub alike : AreAlike values index.alike.items
  pub places : AreLists holders (drop 1 values) index.places

-- where there is an index, it is that of the values
abbrev pub IsIndexed : Column → Type 0
IsIndexed column = ForSome column.index (IsIndexOf column.places.now (values_in column))

-- where a matcher was asked of these values last, its flags are right
abbrev pub IsAnswered : List (List ℕ) → Option Answered → Type 0
IsAnswered values last =
    ForSome last (λ (a : Answered). a.row.items ≡ narrowed_by a.matcher.now values (replicate (length values) true))

-- the places that an index has for a value: those of it, or for the empty one all that have the label
abbrev pub places_with : BTreeMap (Bor (List ℕ)) (Vec ℕ) → List ℕ → List ℕ → List ℕ
places_with lists holders value = if length value == 0 then holders else found_at lists value
