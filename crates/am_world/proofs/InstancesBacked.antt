-- What a store has beside an instance it has still, where what the instance stores is the same.
use Rattle.std.proofs.Common.{◌≡◌, ◌∙◌, ℕ, List, refl, sym}
use Rattle.am_instance.specs.Instance.{local_in}
use Rattle.am_instance.specs.declared.instance.Instance.{Instance}
use Rattle.am_world.specs.Shelves.{StaysBacked}
use Rattle.am_rows.specs.Rows.{stored_in}
use Rattle.am_instance.specs.Site.{local_of}

pub backed_stored : (x y : Instance) → y.up ≡ x.up
    → ((t : List ℕ) → stored_in (local_in t y).held ≡ stored_in (local_in t x).held) → StaysBacked x y
backed_stored x y same stored shelf backed = record {
  opens = λ up. backed.opens (sym same ∙ up);
  stores = λ up clean t. backed.stores (sym same ∙ up) clean t ∙ sym (stored t);
}

stored_node : (x y : Instance) → y.site.node ≡ x.site.node → (t : List ℕ)
    → stored_in (local_in t y).held ≡ stored_in (local_in t x).held
unfolding local_in local_of
stored_node x y node t = rw node refl

pub backed_node : (x y : Instance) → y.up ≡ x.up → y.site.node ≡ x.site.node → StaysBacked x y
backed_node x y same node = backed_stored x y same (stored_node x y node)
