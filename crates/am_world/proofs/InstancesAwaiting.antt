-- Whether the instance of an attempt awaits an outcome.
use Rattle.std.proofs.Common.{◌≡◌, ◌∙◌, ◌==◌, ◌&&◌, ℕ, Bool, false, List, Some, None, ap, refl, sym}
use Rattle.am_cluster.specs.Delivery.{is_awaited}
use Rattle.am_event.specs.declared.output.AttemptName.{AttemptName}
use Rattle.am_instance.specs.Instance.{local_in}
use Rattle.am_instance.specs.declared.instance.Instance.{Instance}
use Rattle.am_world.specs.Places.{awaits_at, incarnation_at, instance_at, local_at, up_at}

-- the instance says whether it is up, and whether it awaits the outcome
pub awaits_here : (attempt : AttemptName) (tries : ℕ) (xs : List Instance) (x : Instance) (up awaits v : Bool)
    → instance_at attempt.instance xs ≡ Some x → up ≡ x.up
    → awaits ≡ ((x.incarnation == attempt.incarnation)
    && is_awaited attempt.number tries (local_in attempt.tenant x))
    → (up && awaits) ≡ v → awaits_at attempt tries xs ≡ v
unfolding awaits_at up_at incarnation_at local_at
awaits_here attempt tries xs x up awaits v here is_up is both =
    let waits = (x.incarnation == attempt.incarnation) && is_awaited attempt.number tries (local_in attempt.tenant x) in
    rw here (sym (ap (λ (u : Bool). u && waits) is_up) ∙ sym (ap (λ (b : Bool). up && b) is) ∙ both)

pub awaits_down : (attempt : AttemptName) (tries : ℕ) (xs : List Instance) (x : Instance)
    → instance_at attempt.instance xs ≡ Some x → x.up ≡ false → awaits_at attempt tries xs ≡ false
unfolding awaits_at up_at incarnation_at local_at
awaits_down attempt tries xs x here down = rw here (rw down refl)

pub awaits_nowhere : (attempt : AttemptName) (tries : ℕ) (xs : List Instance) → instance_at attempt.instance xs ≡ None
    → awaits_at attempt tries xs ≡ false
unfolding awaits_at up_at incarnation_at local_at
awaits_nowhere attempt tries xs none = rw none refl
