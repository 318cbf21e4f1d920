-- The places of receivers by their names.
use Rattle.std.specs.Prelude.{◌≡◌, ℕ, List, Option}
use Rattle.std.specs.BTreeMap.{BTreeMap, get_by}
use Rattle.std.specs.Borrow.{Bor}
use Rattle.std.specs.Cmp.Lexicographic.{slice_cmp}
use Rattle.std.specs.List.{position}
use Rattle.std.specs.Ordering.{nat_cmp}
use Rattle.std.specs.Str.{bytes_eq}
use Rattle.am_draft.specs.declared.receiver.ReceiverDraft.{ReceiverDraft}

-- the place of the first receiver that has this name
abbrev pub place : List ReceiverDraft → List ℕ → Option ℕ
place receivers name = position (λ (receiver : ReceiverDraft). bytes_eq receiver.name name) receivers

-- the map has the place of each receiver at its name, and nothing at any other name
abbrev pub HasPlaces : List ReceiverDraft → BTreeMap (Bor (List ℕ)) ℕ → Type 0
HasPlaces receivers places = (name : List ℕ) → get_by (λ key. slice_cmp nat_cmp name key.now) places ≡ place receivers name
