-- What is kept where an event changes nothing, and what of a world stays where one instance did something.
use Rattle.std.proofs.Common.{◌≡◌, ◌≢◌, ◌⊎◌, ◌∙◌, ℕ, ◌&&◌, ◌≤◌, ◌<◌, inl, inr, true, false, List, [], ◌∷◌}
use Rattle.std.proofs.Common.{◌++◌, Some, refl, sym, ap, arith, subst, if◌then◌else◌}
use Rattle.std.proofs.lemmas.List.{append-nil}
use Rattle.am_cluster.specs.Courses.{after_all, course, fits_all, told_all}
use Rattle.am_cluster.specs.Events.{Event}
use Rattle.am_cluster.specs.Happening.{Happening}
use Rattle.am_cluster.specs.Moments.{effective, last_moment}
use Rattle.am_cluster.specs.Outputs.{front_told}
use Rattle.am_cluster.specs.Patterns.{AreAllBuilt, AsksBuilt}
use Rattle.am_cluster.specs.PrivateCluster.{Course, PrivateCluster, unchanged}
use Rattle.am_cluster.specs.Roster.{IsSameRoster}
use Rattle.am_cluster.specs.View.{Watch, adds, only_of, watch}
use Rattle.am_limit.specs.Books.{limits_of}
use Rattle.am_limit.specs.declared.limits.Limits.{Limits as TenantLimits}
use Rattle.am_instance.specs.Instance.{ReadsAlike}
use Rattle.am_instance.specs.declared.instance.Instance.{Instance}
use Rattle.am_http.specs.Connections.{bytes_of}
use Rattle.am_world.specs.Places.{SameElsewhere, bytes_at, instance_at}
use Rattle.am_world.specs.Simulation.{AreAsked, Follows, Stands, put_out, roster_of}
use Rattle.am_world.specs.Steps.{KeepsBuilds, clock_after, limits_after}
use Rattle.am_world.specs.declared.state.State.{State}
use Rattle.am_tenant.specs.Names.{same}
use Rattle.am_tenant.proofs.Same.{same_tells}
use Rattle.am_text.specs.Moment.{greatest_moment}
use Rattle.am_world.proofs.Beside.{Kept, Premises}
use Rattle.am_world.proofs.AlonePlaces.{at_each, bytes_here, bytes_other, roster_then, same_again}

-- ---- moments

pub effective_later : (moment clock : ℕ) → clock ≤ effective moment clock
effective_later moment clock = omega arith

pub clock_before : (w : State) → w.clock ≤ last_moment → w.clock < greatest_moment
clock_before w early = omega (arith, early)

-- ---- what is known stays so

-- where the instance reads what it read
pub follows_on : (i : ℕ) (v : Watch) (w w' : State) (x y : Instance) → instance_at i w.instances ≡ Some x
    → instance_at i w'.instances ≡ Some y → ReadsAlike x y → SameElsewhere i w.instances w'.instances
    → IsSameRoster (roster_of w') (roster_of w) → Follows v w → Follows v w'
follows_on i v w w' x y here there alike others roster follows = record {
  reading = λ c j. same_bytes c j ∙ follows.reading c j;
  roster = roster_then (roster_of w') (roster_of w) v.roster roster follows.roster;
}
  where
    same_bytes : (c j : ℕ) → bytes_at c j w'.instances ≡ bytes_at c j w.instances
    same_bytes c =
        at_each (λ j. bytes_at c j w'.instances ≡ bytes_at c j w.instances) i
        (bytes_here c i w'.instances y there ∙ ap (bytes_of c) alike ∙ sym (bytes_here c i w.instances x here))
        (λ j h. bytes_other c i j w.instances w'.instances others h)

-- ---- an event that changes nothing

-- it is nothing to a tenant's cluster
pub record IsNothing (t : List ℕ) (v : Watch) (p : PrivateCluster) (e : Event) : Type 0 where
  pub after : after_all p (adds t v e) ≡ p
  pub told : told_all p (adds t v e) ≡ []
  pub fits : fits_all p (adds t v e) ≡ true
  pub built : AreAllBuilt p (adds t v e)

-- nothing happens to it
pub adds_none : (t : List ℕ) (v : Watch) (p : PrivateCluster) (e : Event) → adds t v e ≡ [] → IsNothing t v p e
adds_none t v p e none = record {
  after = ap (after_all p) none;
  told = ap (told_all p) none;
  fits = ap (fits_all p) none;
  built = subst (AreAllBuilt p) (sym none) tt;
}

-- or what happens changes nothing, where it is the tenant's
pub adds_idle : (t tenant : List ℕ) (v : Watch) (p : PrivateCluster) (e : Event) (h : Happening)
    → adds t v e ≡ only_of t tenant h → (t ≡ tenant → course p h ≡ unchanged p) → (t ≡ tenant → AsksBuilt p h)
    → IsNothing t v p e
adds_idle t tenant v p e h added idle built = by_tenant (same_tells t tenant)
  where
    own : adds t v e ≡ h ∷ [] → course p h ≡ unchanged p → AsksBuilt p h → IsNothing t v p e
    own one is asks = record {
      after = ap (after_all p) one ∙ ap (λ (q : Course). q.cluster) is;
      told = ap (told_all p) one ∙ ap (λ (q : Course). q.outputs ++ []) is;
      fits = ap (fits_all p) one ∙ ap (λ (q : Course). q.fits && true) is;
      built = subst (AreAllBuilt p) (sym one) (asks, tt);
    }

    by_tenant : ((same t tenant ≡ true) × (t ≡ tenant)) ⊎ ((same t tenant ≡ false) × (t ≢ tenant)) → IsNothing t v p e
    by_tenant (inl mine) =
        own (added ∙ ap (λ b. if b then h ∷ [] else []) mine.0) (idle mine.1) (built mine.1)
    by_tenant (inr other) = adds_none t v p e (added ∙ ap (λ b. if b then h ∷ [] else []) other.0)

pub kept_nothing : (w : State) (e : Event) → ((v : Watch) → Follows v w → watch v e ≡ v)
    → ((t : List ℕ) (v : Watch) (p : PrivateCluster) → Premises t v p w → IsNothing t v p e)
    → ((v : Watch) → Follows v w → front_told v e ≡ []) → w.clock ≡ clock_after e w.clock
    → ((t : List ℕ) (limits : TenantLimits) → limits ≡ limits_after e t limits) → ((i : ℕ) → KeepsBuilds w e i [] w)
    → Kept w e w
kept_nothing w e unchanging nothing unsaid clock limits builds = record {
  follows = λ v follows. subst (λ x. Follows x w) (sym (unchanging v follows)) follows;
  asked = λ v follows new asked. subst (λ x. AreAsked x w) (sym (unchanging v follows)) asked;
  outs = [];
  appended = sym (append-nil (put_out w));
  tenants = λ t v p given. let idle = nothing t v p given in inl (record {
    stands = subst (λ q. Stands t w q) (sym idle.after) given.stands;
    told = λ u later. sym idle.told;
    fits = idle.fits;
    built = idle.built;
  });
  front = λ v follows asked u later. sym (unsaid v follows);
  owned = λ v follows asked u later. refl;
  roster = same_again (roster_of w);
  clock = clock;
  limits = λ t. limits t (limits_of t w.common.limits);
  service_key = refl;
  refused = builds;
  faults = refl;
}
