-- Things that are written one after another.
use Rattle.std.proofs.Common.{◌≡◌, ℕ, ◌<◌, All, length, get_or, subst, List, [], ◌∷◌, ◌++◌, sym, ap, ◌∙◌, append_assoc, append-nil}
use Rattle.std.specs.List.{flat_map}
use Rattle.am_text.specs.declared.failure.Failure.{Failure}
use Rattle.am_text.specs.declared.failure.Failure.TheVariants.{Refused, OutOfMemory}
use Rattle.am_item.specs.declared.item.Item.{Item}
use Rattle.am_wire.specs.declared.refusal.EncodeRefusal.{EncodeRefusal}
use Rattle.am_wire.specs.ItemFields.{IsItem}
use Rattle.am_wire.specs.Refusals.{IsBadBy}
use Rattle.std.proofs.lemmas.Grind.{flat_map-append}

-- one more was written
pub written_more : {A : Type 0} (bytes_of : A → List ℕ) (start before after : List ℕ) (xs : List A) (x : A) →
    before ≡ start ++ flat_map bytes_of xs → after ≡ before ++ bytes_of x → after ≡ start ++ flat_map bytes_of (xs ++ x ∷ [])
written_more bytes_of start before after xs x so_far here =
    here ∙ ap (λ b. b ++ bytes_of x) so_far ∙ append_assoc start (flat_map bytes_of xs) (bytes_of x)
    ∙ sym (ap (λ b. start ++ b)
    (flat_map-append bytes_of xs (x ∷ []) ∙ ap (λ b. flat_map bytes_of xs ++ b) (append-nil (bytes_of x))))

-- a reason for which no list of these is right
pub bad_among : (failure : Failure EncodeRefusal) (items : List Item) (i : ℕ) (item : Item) → i < length items → item ≡ get_or items i item →
    IsBadBy (¬ IsItem item) failure → IsBadBy (¬ All IsItem items) failure
bad_among OutOfMemory items i item lt at bad = tt
bad_among (Refused refusal) items i item lt at bad =
    (bad.0, λ all. bad.1 (subst IsItem (sym at) (all i item lt)))
