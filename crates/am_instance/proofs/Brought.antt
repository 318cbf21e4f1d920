-- What bytes bring that are no request of a tenant.
use Rattle.std.proofs.Common.{◌≡◌, ℕ, List, [], ◌∷◌, ◌++◌, sym}
use Rattle.std.proofs.lemmas.List.{append-nil}
use Rattle.am_cluster.specs.Events.{Output, Reply}
use Rattle.am_cluster.specs.Outputs.{refusal_reply}
use Rattle.am_http.specs.Replies.{ready_reply}
use Rattle.am_http.specs.declared.refusal.FrontRefusal.{FrontRefusal}
use Rattle.am_http.specs.declared.request.Fed.TheVariants as fed
use Rattle.am_instance.specs.Bringing.{Brings}
use Rattle.am_instance.specs.Here.{Circumstances}
use Rattle.am_instance.specs.Instance.{local_in}
use Rattle.am_instance.specs.declared.instance.Instance.{Instance}

module _ (c : ℕ) (around : Circumstances) (x x' : Instance) (local : (t : List ℕ) → local_in t x' ≡ local_in t x) (outs : List Output) where
  pub brings_waits : Brings fed.Waits c around x x' outs outs
  brings_waits = record { local = local; outputs = sym (append-nil outs) }

  pub brings_refused : (reason : FrontRefusal) (outs' : List Output) → outs' ≡ outs ++ Reply c (refusal_reply reason) ∷ []
      → Brings (fed.Refused reason) c around x x' outs outs'
  brings_refused reason outs' said = record { local = local; outputs = said }

  pub brings_ready : (outs' : List Output) → outs' ≡ outs ++ Reply c ready_reply ∷ [] → Brings fed.Ready c around x x' outs outs'
  brings_ready outs' said = record { local = local; outputs = said }
