use Rattle.std.proofs.Common.{◌≡◌, ◌∙◌, ◌&&◌, ℕ, Bool, true, List, not, ap, sym}
use Rattle.am_cluster.specs.Here.{Here, is_replica_here}
use Rattle.am_cluster.specs.Local.{is_settled}
use Rattle.am_site.specs.Here.{here_of}
use Rattle.am_site.specs.Locals.{local_of}
use Rattle.am_site.specs.declared.here.Here.{Here as Given}
use Rattle.am_instance.specs.Here.{Circumstances, IsGiven, here_on}
use Rattle.am_instance.specs.Instance.{local_in}
use Rattle.am_instance.specs.Standing.{is_unsettled_for}
use Rattle.am_instance.specs.declared.instance.Instance.{Instance}

-- a replica isn't settled, by what it goes by
pub unsettled_by : (around : Circumstances) (x : Instance) (t : List ℕ) (given : Given) (replica settled : Bool)
    → IsGiven around x t given → replica ≡ is_replica_here (here_of given) → replica ≡ true
    → settled ≡ is_settled (here_of given) (local_of given.tenant.now x.site)
    → not settled ≡ is_unsettled_for around x t
unfolding local_in here_on
unsettled_by around x t given replica settled is asks so tells =
    let here : here_of given ≡ here_on around x t = is.here in
    let among : is_replica_here (here_on around x t) ≡ true = sym (ap is_replica_here here) ∙ sym asks ∙ so in
    let whose : given.tenant.now ≡ t = ap (λ (h : Here). h.tenant) here in
    ap not (tells ∙ ap (λ (h : Here). is_settled h (local_of given.tenant.now x.site)) here
    ∙ ap (λ u. is_settled (here_on around x t) (local_of u x.site)) whose)
    ∙ sym (ap (λ b. b && not (is_settled (here_on around x t) (local_of t x.site))) among)
