use Rattle.std.proofs.Common.{◌≡◌, ◌∙◌, ◌++◌, ◌∷◌, [], ℕ, IsSome, List, Option, Some, ap, refl, sym}
use Rattle.std.specs.BTreeMap.{get_by}
use Rattle.std.specs.Cmp.Lexicographic.{slice_cmp}
use Rattle.std.specs.Global.{Vec}
use Rattle.std.specs.Option.{option_map_or}
use Rattle.std.specs.Ordering.{nat_cmp}
use Rattle.std.proofs.lemmas.Map.Text.{btree_map_updates_str}
use Rattle.am_column.specs.Places.{found_at}
use Rattle.am_column.proofs.PlacesLemmas.{noted_put}
use Rattle.am_column.proofs.places.note.Goals as goal

items : Option (Vec ℕ) → List ℕ
items found = option_map_or (λ (list : Vec ℕ). list.items) found []

pub returns-in-Some : goal.returns-in-Some
unfolding items
returns-in-Some c =
    let value = c.args.value.now in
    let written = c.get_mut.follows.holds c.push.new.self in
    let there : IsSome (get_by (λ key. slice_cmp nat_cmp value key.now) c.args.places.now) = rw (← c.in-Some.ensures.value) refl in
    noted_put c.args.places.now (c.get_mut.follows.lender c.push.new.self) c.args.place value c.push.new.self
    (c.in_ok-push.ensures.items ∙ ap (λ xs. xs ++ c.args.place ∷ []) (ap items c.in-Some.ensures.value))
    (btree_map_updates_str value c.args.places.now (c.get_mut.follows.lender c.push.new.self) (Some c.push.new.self) (written.3 there))

pub returns : goal.returns
unfolding items
returns c =
    let value = c.args.value.now in
    let empty : found_at c.args.places.now value ≡ [] = ap items (sym c.in_default.ensures.value) in
    let first : c.in_ok-vec.field-0.items ≡ c.args.place ∷ [] = c.in_ok-vec.ensures.items_if_clones_equal (λ y same. same) in
    noted_put c.args.places.now c.insert.new.self c.args.place value c.in_ok-vec.field-0
    (first ∙ ap (λ xs. xs ++ c.args.place ∷ []) (sym empty))
    (btree_map_updates_str value c.args.places.now c.insert.new.self (Some c.in_ok-vec.field-0) (rw c.get_mut.follows.holds-at-none at c.in_ok-insert.ensures.updates))
