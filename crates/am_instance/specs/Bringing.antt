-- What bytes of a connection do to an instance, by the verdict on all of them.
use Rattle.std.specs.Prelude.{◌≡◌, ℕ, ◌++◌, List, [], ◌∷◌}
use Rattle.am_cluster.specs.Events.{Output, Reply}
use Rattle.am_cluster.specs.Operating.{start}
use Rattle.am_cluster.specs.Outputs.{refusal_reply}
use Rattle.am_http.specs.Replies.{ready_reply}
use Rattle.am_http.specs.declared.request.Fed.{Fed}
use Rattle.am_http.specs.declared.request.Fed.TheVariants as fed
use Rattle.am_item.specs.declared.fault.Fault.{Fault}
use Rattle.am_item.specs.declared.fault.Fault.TheVariants.{OutOfMemory}
use Rattle.am_site.specs.Reacting.{StopsReacting}
use Rattle.am_instance.specs.declared.instance.Instance.{Instance}
use Rattle.am_instance.specs.Here.{Circumstances, here_on}
use Rattle.am_instance.specs.Instance.{local_in}
use Rattle.am_instance.specs.Reacting.{Reacts}

-- the front answers by itself, or nothing is said; no tenant has anything of it
pub record Says (outs : List Output) (x x' : Instance) (before after : List Output) : Type 0 where
  pub local : (t : List ℕ) → local_in t x' ≡ local_in t x
  pub outputs : after ≡ before ++ outs

-- a whole request starts an operation
abbrev pub Brings : Fed → (c : ℕ) → Circumstances → (x x' : Instance) → (before after : List Output) → Type 0
Brings fed.Waits c around x x' before after = Says [] x x' before after
Brings (fed.Refused reason) c around x x' before after = Says (Reply c (refusal_reply reason) ∷ []) x x' before after
Brings fed.Ready c around x x' before after = Says (Reply c ready_reply ∷ []) x x' before after
Brings (fed.Request request) c around x x' before after =
    Reacts around request.tenant (λ here. start here c request) x x' before after

-- why it stops at them: memory ran out; or a count of the tenant's operations or messages would have passed the
-- greatest
abbrev pub IsCause : Fault → Fed → (c : ℕ) → Circumstances → Instance → Type 0
IsCause fault fed.Waits c around x = fault ≡ OutOfMemory
IsCause fault (fed.Refused reason) c around x = fault ≡ OutOfMemory
IsCause fault fed.Ready c around x = fault ≡ OutOfMemory
IsCause fault (fed.Request request) c around x =
    StopsReacting request.tenant (start (here_on around x request.tenant) c request) x.site fault
