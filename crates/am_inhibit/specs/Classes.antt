-- Label sets in classes of those that are alike, by number.
use Rattle.std.specs.Prelude.{◌≡◌, ◌==◌, ◌&&◌, ◌++◌, ◌∷◌, ℕ, ◌<◌, [], false, List, All, Bool, Option, None, Some, cond, filter, get_or, length, slice_set}
use Rattle.std.specs.BTreeMap.{BTreeMap, get}
use Rattle.std.specs.List.{range_with_len}
use Rattle.std.specs.Option.{ForSome}
use Rattle.std.specs.Ordering.{eq_by_cmp}
use Rattle.am_labels.specs.declared.Label.{Label}
use Rattle.am_inhibit.specs.Alike.{key_of, keys_cmp}

-- of some keys their numbers
abbrev pub Numbers : Type 0
Numbers = BTreeMap (List (List ℕ)) ℕ

-- the list of a number, where there is one
unfoldable pub list_of : Option ℕ → List (List ℕ) → List ℕ
list_of None lists = []
list_of (Some number) lists = get_or lists number []

-- the list of a key
abbrev pub list_of_key : Numbers → List (List ℕ) → List (List ℕ) → List ℕ
list_of_key numbers lists key = list_of (get keys_cmp numbers key) lists

-- the lists once a place came behind the list of a number, which is a new one behind all where it is their count
abbrev pub put_in : ℕ → ℕ → List (List ℕ) → List (List ℕ)
put_in place number lists =
    cond (number == length lists) (lists ++ (place ∷ []) ∷ []) (slice_set lists number (get_or lists number [] ++ place ∷ []))

-- a flagged place whose label set has this key
abbrev pub has_key : List (List ℕ) → List (List Label) → List Bool → List (List ℕ) → ℕ → Bool
has_key names sets flags key place = get_or flags place false && eq_by_cmp keys_cmp key (key_of names (get_or sets place []))

-- all of them, rising
abbrev pub places_of_key : List (List ℕ) → List (List Label) → List Bool → List (List ℕ) → List ℕ
places_of_key names sets flags key = filter (λ place. has_key names sets flags key place) (range_with_len 0 (length sets))

-- each key has the list of its flagged places, and no list is empty
pub record AreClasses (names : List (List ℕ)) (sets : List (List Label)) (flags : List Bool) (numbers : Numbers) (lists : List (List ℕ)) : Type 0 where
  pub listed : (key : List (List ℕ)) → list_of_key numbers lists key ≡ places_of_key names sets flags key
  pub within : (key : List (List ℕ)) → ForSome (get keys_cmp numbers key) (λ number. number < length lists)
  pub some : All (λ list. 0 < length list) lists
