-- What an instance does where something happens to one tenant, and what it puts out.
use Rattle.std.specs.Prelude.{◌≡◌, ℕ, ◌++◌, true, List, map, if◌then◌else◌}
use Rattle.am_cluster.specs.Events.{Output}
use Rattle.am_cluster.specs.Here.{Here}
use Rattle.am_cluster.specs.Local.{Local}
use Rattle.am_cluster.specs.PrivateCluster.{output_of}
use Rattle.am_cluster.specs.Reactions.{Reaction, Said}
use Rattle.am_tenant.specs.Names.{same}
use Rattle.am_instance.specs.declared.instance.Instance.{Instance}
use Rattle.am_instance.specs.Here.{Circumstances, here_on}
use Rattle.am_instance.specs.Instance.{local_in}

-- what it says of a tenant, as outputs
abbrev pub outputs_at : Instance → (tenant : List ℕ) → List Said → List Output
outputs_at x tenant said = map (output_of tenant x.number x.incarnation) said

-- its reaction to what happens to the tenant
abbrev pub reaction_on : Circumstances → Instance → (tenant : List ℕ) → (Here → Local → Reaction) → Reaction
reaction_on around x tenant react = react (here_on around x tenant) (local_in tenant x)

-- of this tenant it has what the reaction makes, and puts out what that says; of every other it has what it had
pub record Reacts (around : Circumstances) (tenant : List ℕ) (react : Here → Local → Reaction) (x x' : Instance)
    (before after : List Output) : Type 0 where
  pub local : (t : List ℕ) → local_in t x'
      ≡ (if same t tenant then (reaction_on around x t react).local else local_in t x)
  pub outputs : after ≡ before ++ outputs_at x tenant (reaction_on around x tenant react).said
  pub fits : (reaction_on around x tenant react).fits ≡ true
