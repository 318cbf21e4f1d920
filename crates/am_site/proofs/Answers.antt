-- What a replica answers.
use Rattle.std.proofs.Common.{◌≡◌, ℕ, true, false, List, refl}
use Rattle.am_cluster.specs.Arriving.{answer_get}
use Rattle.am_cluster.specs.Here.{Here}
use Rattle.am_cluster.specs.Local.{Local, is_settled}
use Rattle.am_cluster.specs.Messages.{Answer}
use Rattle.am_cluster.specs.Reactions.{stays}
use Rattle.am_cluster.specs.Sending.{send_in}
use Rattle.am_transfer.specs.Peers.{Peer}
use Rattle.am_item.specs.declared.item.Item.{Item}

-- a settled one sends what it holds
pub answers : (here : Here) (asker : Peer) (operation : ℕ) (items : List Item) (l : Local) → is_settled here l ≡ true → items ≡ l.held
    → send_in here.epoch here asker.instance (Answer operation asker.incarnation items) l ≡ answer_get here asker operation l
answers here asker operation items l settled held = rw (settled, held) refl

-- any other sends nothing
pub answers_not : (here : Here) (asker : Peer) (operation : ℕ) (l : Local) → is_settled here l ≡ false → answer_get here asker operation l ≡ stays l
answers_not here asker operation l settled = rw settled refl
