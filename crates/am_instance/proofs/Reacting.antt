-- What is done for one tenant, as the instance does it.
use Rattle.std.proofs.Common.{◌≡◌, ℕ, List, [], ◌++◌, map, inl, inr, ap, refl, sym, subst, ◌∙◌, if◌then◌else◌}
use Rattle.am_cluster.specs.Events.{Output}
use Rattle.am_cluster.specs.Here.{Here}
use Rattle.am_cluster.specs.Local.{Local}
use Rattle.am_cluster.specs.PrivateCluster.{output_of}
use Rattle.am_cluster.specs.Reactions.{Reaction}
use Rattle.am_item.specs.declared.fault.Fault.{Fault}
use Rattle.am_site.specs.Here.{here_of}
use Rattle.am_site.specs.Locals.{local_of}
use Rattle.am_site.specs.Reacting.{Moves, Reacts as SiteReacts, StopsReacting, said_in}
use Rattle.am_site.specs.declared.here.Here.{Here as Given}
use Rattle.am_site.specs.declared.said.Said.{Said as Spoken}
use Rattle.am_site.proofs.Moving.{moves}
use Rattle.am_tenant.proofs.Same.{same_tells}
use Rattle.am_tenant.specs.Names.{same}
use Rattle.am_instance.specs.Here.{Circumstances, IsGiven, here_on, three_on}
use Rattle.am_instance.specs.Instance.{local_in}
use Rattle.am_instance.specs.Reacting.{Reacts}
use Rattle.am_instance.specs.declared.instance.Instance.{Instance}

module _ (around : Circumstances) (x : Instance) (tenant : List ℕ) (given : Given) (is : IsGiven around x tenant given) where
  pub whose : given.tenant.now ≡ tenant
  unfolding here_on
  whose = ap (λ (h : Here). h.tenant) is.here

  pub when : given.moment ≡ around.moment
  unfolding here_on
  when = ap (λ (h : Here). h.moment) is.here

  pub which : given.incarnation ≡ x.incarnation
  unfolding here_on
  which = ap (λ (h : Here). h.incarnation) is.here

  pub who : given.three.now ≡ three_on around x tenant
  unfolding here_on
  who = ap (λ (h : Here). h.three) is.here

  pub stops_here : (react : Here → Local → Reaction) (fault : Fault) → StopsReacting given.tenant.now (react (here_of given)) x.site fault
      → StopsReacting tenant (react (here_on around x tenant)) x.site fault
  stops_here react fault stops =
      subst (λ h. StopsReacting tenant (react h) x.site fault) is.here
      (subst (λ s. StopsReacting s (react (here_of given)) x.site fault) whose stops)

  module _ (react : Here → Local → Reaction) (x' : Instance) (was said : List Spoken) (none : was ≡ []) (before after : List Output)
      (put : after ≡ before ++ map (output_of tenant x.number x.incarnation) (map said_in said)) where
    pub moves_here : Moves given.tenant.now (react (here_of given)) x.site x'.site was said → Reacts around tenant react x x' before after
    unfolding local_in
    moves_here one = record {
      local = λ t. own.local t ∙ named t;
      outputs = put ∙ ap (λ words. before ++ map (output_of tenant x.number x.incarnation) words) own.said;
      fits = own.fits;
    }
      where
        own : Moves tenant (react (here_on around x tenant)) x.site x'.site [] said
        own =
            subst (λ w. Moves tenant (react (here_on around x tenant)) x.site x'.site w said) none
            (subst (λ h. Moves tenant (react h) x.site x'.site was said) is.here (subst (λ s. Moves s (react (here_of given)) x.site x'.site was said) whose one))

        named : (t : List ℕ) → (if same t tenant then (react (here_on around x tenant) (local_of t x.site)).local else local_of t x.site)
            ≡ (if same t tenant then (react (here_on around x t) (local_of t x.site)).local else local_of t x.site)
        named t = elim (same_tells t tenant) [
          | inl own ↦ ap (λ s. if same t tenant then (react (here_on around x s) (local_of t x.site)).local else local_of t x.site) (sym own.1)
          | inr apart ↦ rw apart.0 refl
        ]

    pub reacts_here : SiteReacts given.tenant.now (react (here_of given)) x.site x'.site was said → Reacts around tenant react x x' before after
    reacts_here one = moves_here (moves given.tenant.now (react (here_of given)) x.site x'.site was said one)
