-- What is left in a store.
use Rattle.std.proofs.Common.{◌≡◌, ℕ, List, Option, Some, ap, ap₂, subst}
use Rattle.am_item.specs.declared.fault.Fault.{Fault}
use Rattle.am_item.specs.declared.fault.Fault.TheVariants.{OutOfMemory, StoreRefused}
use Rattle.am_item.specs.declared.item.Item.{Item}
use Rattle.am_node.specs.Local.{Local}
use Rattle.am_node.specs.Storing.{LeavesStore}
use Rattle.am_rows.specs.Refusing.{Medium}
use Rattle.am_cluster.specs.Messages.{Message}
use Rattle.am_site.specs.Arriving.{LeavesBrought, brought_at}
use Rattle.am_site.specs.Here.{here_of}
use Rattle.am_site.specs.Locals.{local_of}
use Rattle.am_site.specs.declared.here.Here.{Here as Given}
use Rattle.am_instance.specs.declared.instance.Instance.{Instance}
use Rattle.am_instance.specs.Here.{Circumstances, IsGiven}
use Rattle.am_instance.specs.Instance.{local_in}
use Rattle.am_instance.specs.Receiving.{brought_on}
use Rattle.am_instance.proofs.Reacting.{whose}

-- where a call ended in another fault, which no store is refused for
pub left_ending : (before after : List ℕ → Local) (Rejected : Type 0) (fault : Option Fault) (old new : Medium) (pairs : List (List ℕ × Item))
    → LeavesStore before after Rejected fault old new pairs → (ending : Option Fault) → (ending ≡ Some StoreRefused → ⊥)
    → LeavesStore before after Rejected ending old new pairs
left_ending before after Rejected fault old new pairs left ending unrefused = record { rows = left.rows; cause = λ is. absurd (unrefused is) }

pub memory_unrefused : Some OutOfMemory ≡ Some StoreRefused → ⊥
memory_unrefused is = let clash = is in cc

-- of the tenant whom the items are of, at the moment at which they came
pub left_here : (Rejects : List ℕ → List Item → Type 0) (before : List ℕ → Local) (fault : Option Fault) (old new : Medium)
    (pairs : List (List ℕ × Item)) (s tenant : List ℕ) (n moment : ℕ) (given brought : Option (List Item))
    → s ≡ tenant → n ≡ moment → given ≡ brought → LeavesBrought Rejects given s n before fault old new pairs
    → LeavesBrought Rejects brought tenant moment before fault old new pairs
left_here Rejects before fault old new pairs s tenant n moment given brought whose when what left =
    subst (λ (items : Option (List Item)). LeavesBrought Rejects items tenant moment before fault old new pairs) what
    (subst (λ m. LeavesBrought Rejects given tenant m before fault old new pairs) when
    (subst (λ r. LeavesBrought Rejects given r n before fault old new pairs) whose left))

-- what it brings, as it is told what it goes by
pub brought_there : (around : Circumstances) (x : Instance) (message : Message) (given : Given)
    → IsGiven around x message.tenant given → brought_at (here_of given) message (local_of given.tenant.now x.site) ≡ brought_on around x message
unfolding local_in
brought_there around x message given is =
    ap₂ (λ h l. brought_at h message l) is.here
    (ap (λ t. local_of t x.site) (whose around x message.tenant given is))
