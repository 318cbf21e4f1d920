-- Whether what a value holds is empty.
use Rattle.std.proofs.Common.{◌≡◌, Bool, true, false, not, ◌↔◌, ◌==◌, List, [], ◌∷◌, length, String, refl, sym, ap, arith}
use Rattle.std.proofs.Math.Dec.{eqb-suc-zero}
use Rattle.std.specs.Bool.{IsTrue}
use Rattle.std.specs.declared.alloc.Global.{Global}
use Rattle.serde_json.specs.View.{items_view, members_view}
use Rattle.serde_json.specs.declared.value.Value.{Value}
use Rattle.am_draft.specs.Keys.{has_items, has_members}

-- a list holds something unless its length is 0
pub has_items_held : (values : List Value) → has_items (items_view values) ≡ not (length values == 0)
has_items_held [] = refl
has_items_held (value ∷ values) = sym (ap not (eqb-suc-zero (length values)))

-- and so does an object
pub has_members_held : (entries : List (String Global × Value)) (is_empty : Bool) →
    (IsTrue is_empty ↔ (length entries ≡ 0)) → has_members (members_view entries) ≡ not is_empty
has_members_held [] true h = refl
has_members_held [] false h = let never : false ≡ true = h.1 refl in cc
has_members_held (entry ∷ entries) true h = let never : length (entry ∷ entries) ≡ 0 = h.0 refl in absurd (omega arith)
has_members_held (entry ∷ entries) false h = refl
