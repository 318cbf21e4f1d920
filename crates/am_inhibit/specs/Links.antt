-- Lists of places that alerts share.
use Rattle.std.specs.Prelude.{◌≡◌, ◌==◌, ◌&&◌, ◌||◌, ℕ, ◌<◌, [], false, List, All, Bool, filter, get_or, length, map}
use Rattle.std.specs.Global.{Global, Vec}
use Rattle.std.specs.List.{list_any, range_with_len}
use Rattle.std.specs.List.Sorted.{IsStrictlySortedBy}
use Rattle.std.specs.Ordering.{nat_cmp}
use Rattle.std.specs.Rc.{rc_slice_items}
use Rattle.std.specs.declared.rc.RcSlice.{RcSlice}
use Rattle.am_labels.specs.declared.Label.{Label}
use Rattle.am_inhibit.specs.Alike.{are_alike}

-- the place stands in the list
abbrev pub has_place : ℕ → List ℕ → Bool
has_place place list = list_any (λ other. place == other) list

-- it stands in one of the lists
abbrev pub is_among : List (List ℕ) → ℕ → Bool
is_among lists place = list_any (λ list. has_place place list) lists

-- the places below a count that stand in one of the lists, each once, rising
abbrev pub places_in : ℕ → List (List ℕ) → List ℕ
places_in count lists = filter (λ place. is_among lists place) (range_with_len 0 count)

-- places below a count, rising, and at least one
pub record ArePlaces (count : ℕ) (list : List ℕ) : Type 0 where
  pub rising : IsStrictlySortedBy nat_cmp list
  pub below : All (λ place. place < count) list
  pub some : 0 < length list

-- of each alert the lists that it has
abbrev pub lists_of : List (Vec (RcSlice ℕ Global)) → List (List (List ℕ))
lists_of links = map (λ (lists : Vec (RcSlice ℕ Global)). map rc_slice_items lists.items) links

-- all of them are places below a count
abbrev pub AreAllPlaces : ℕ → List (List (List ℕ)) → Type 0
AreAllPlaces count each = All (λ (lists : List (List ℕ)). All (ArePlaces count) lists) each

-- to each target's lists came the sources that are like it
abbrev pub AreLinked : List (List ℕ) → List (List Label) → List Bool → List Bool → List (List (List ℕ)) → List (List (List ℕ)) → Type 0
AreLinked names sets sources targets old new =
    (k place : ℕ) → k < length sets → place < length sets →
    is_among (get_or new k []) place
    ≡ (is_among (get_or old k []) place
    || (get_or targets k false && (get_or sources place false && are_alike names (get_or sets place []) (get_or sets k []))))
