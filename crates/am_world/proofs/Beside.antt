-- What an event keeps of the state alone, by which neither the ring nor an instance changes; and that it keeps what the
-- stores have then.
use Rattle.std.proofs.Common.{◌≡◌, ◌⊎◌, ◌∙◌, inl, inr, ℕ, true, false, List, [], ◌∷◌, ◌++◌, Some, refl, sym, ap, subst}
use Rattle.std.specs.List.{list_all}
use Rattle.std.proofs.lemmas.Bool.{and_parts}
use Rattle.am_cluster.specs.Patterns.{IsRefusedBuild}
use Rattle.am_cluster.specs.Deciding.{Decision}
use Rattle.am_cluster.specs.Courses.{after_all, course_by, fits_all, told_all}
use Rattle.am_cluster.specs.Deciding.{Deciding, deciding_at}
use Rattle.am_cluster.specs.Events.{Event, Output}
use Rattle.am_cluster.specs.Happening.{Happening}
use Rattle.am_cluster.specs.Outputs.{are_owned, front_outputs, front_told, outputs_of}
use Rattle.am_cluster.specs.Patterns.{AreAllBuilt}
use Rattle.am_cluster.specs.PrivateCluster.{PrivateCluster}
use Rattle.am_cluster.specs.Roster.{IsSameRoster}
use Rattle.am_cluster.specs.View.{Watch, adds, opens_new, watch}
use Rattle.am_instance.specs.Shelves.{Shelf}
use Rattle.am_limit.specs.Books.{limits_of}
use Rattle.am_rows.specs.Rows.{rows_of}
use Rattle.am_world.specs.Consistent.{Contents, over}
use Rattle.am_world.specs.Places.{up_at}
use Rattle.am_world.specs.Shelves.{shelf_at}
use Rattle.am_world.specs.Simulation.{AreAsked, Follows, KeepsRows, Stands, fault_count, put_out}
use Rattle.am_world.specs.Simulation.{refused_by, roster_of}
use Rattle.am_world.specs.Steps as whole
use Rattle.am_world.specs.Steps.{KeepsBuilds, Later, clock_after, limits_after, told_when_decided, when_decided}
use Rattle.am_world.specs.Stopping.{Step}
use Rattle.am_world.specs.declared.state.State.{State}
use Rattle.am_world.proofs.RowsStay.{adds_beside, is_beside, leaves_ring, roster_beside, rows_stay, rows_stay_all}

-- ---- of the state alone

pub record Premises (t : List ℕ) (v : Watch) (p : PrivateCluster) (w : State) : Type 0 where
  pub follows : Follows v w
  pub asked : AreAsked v w
  pub stands : Stands t w p

pub record IsAsAlone (t : List ℕ) (v : Watch) (p : PrivateCluster) (e : Event) (outs : List Output) (w' : State) :
    Type 0 where
  pub stands : Stands t w' (after_all p (adds t v e))
  pub told : (u : Watch) → Later (watch v e) u → outputs_of t u outs ≡ told_all p (adds t v e)
  pub fits : fits_all p (adds t v e) ≡ true
  pub built : AreAllBuilt p (adds t v e)

pub record IsRefusedAlone (t : List ℕ) (v : Watch) (p : PrivateCluster) (w : State) (e : Event) (outs : List Output)
    (w' : State) : Type 0 where
  pub happening : Happening
  pub is_added : adds t v e ≡ happening ∷ []
  pub deciding : Deciding
  pub decides : deciding_at p happening ≡ Some deciding
  pub decision : Decision
  pub refused : IsRefusedBuild (refused_by w deciding.here.instance) (refused_by w' deciding.here.instance)
      deciding.operation.request deciding.here.limits decision
  pub stands : Stands t w' (when_decided decision p happening)
  pub told : (u : Watch) → Later (watch v e) u → outputs_of t u outs ≡ told_when_decided decision p happening
  pub fits : (course_by (λ _ _ _ _. decision) p happening).fits ≡ true

pub record Kept (w : State) (e : Event) (w' : State) : Type 0 where
  pub follows : (v : Watch) → Follows v w → Follows (watch v e) w'
  pub asked : (v : Watch) → Follows v w → opens_new v e → AreAsked v w → AreAsked (watch v e) w'
  pub outs : List Output
  pub appended : put_out w' ≡ put_out w ++ outs
  pub tenants : (t : List ℕ) (v : Watch) (p : PrivateCluster) → Premises t v p w →
      IsAsAlone t v p e outs w' ⊎ IsRefusedAlone t v p w e outs w'
  pub front : (v : Watch) → Follows v w → AreAsked v w → (u : Watch) → Later (watch v e) u →
      front_outputs u outs ≡ front_told v e
  pub owned : (v : Watch) → Follows v w → AreAsked v w → (u : Watch) → Later (watch v e) u → are_owned u outs ≡ true
  pub roster : IsSameRoster (roster_of w') (roster_of w)
  pub clock : w'.clock ≡ clock_after e w.clock
  pub limits : (t : List ℕ) → limits_of t w'.common.limits ≡ limits_after e t (limits_of t w.common.limits)
  pub service_key : w'.common.service_key ≡ w.common.service_key
  pub refused : (i : ℕ) → KeepsBuilds w e i outs w'
  pub faults : fault_count w' ≡ fault_count w

-- ---- with the stores, where those of instances that are down are as they were

-- one of the happenings is no change, where all are
one_beside : (h : Happening) (hs : List Happening) → hs ≡ h ∷ [] → list_all is_beside hs ≡ true → is_beside h ≡ true
one_beside h hs is are = (and_parts (is_beside h) _ (sym (ap (list_all is_beside) is) ∙ are)).0

module _ (c : Contents) (e : Event) (c' : Contents) (beside : leaves_ring e ≡ true) (kept : Kept c.state e c'.state)
    (rest : (i : ℕ) → up_at i c.state.instances ≡ false → shelf_at i c'.shelves ≡ shelf_at i c.shelves) where
  keeps : (t : List ℕ) (p q : PrivateCluster) → q.rows ≡ p.rows → KeepsRows t c p → KeepsRows t c' q
  keeps t p q rows keep i down clean =
      let was : up_at i c.state.instances ≡ false = sym (kept.roster.up i) ∙ down in
      ap (λ (s : Shelf). rows_of t s.pairs) (rest i was)
      ∙ keep i was (sym (ap (λ (s : Shelf). s.is_clean) (rest i was)) ∙ clean)
      ∙ sym (ap (λ f. f i) rows)

  alone : (t : List ℕ) (v : Watch) (p : PrivateCluster) → KeepsRows t c p → IsAsAlone t v p e kept.outs c'.state
      → whole.IsAsAlone t v p e kept.outs c'
  alone t v p keep is = record {
    stands = record {
      stands = is.stands;
      keeps = keeps t p (after_all p (adds t v e)) (rows_stay_all p (adds t v e) (adds_beside t v e beside)) keep;
    };
    told = is.told;
    fits = is.fits;
    built = is.built;
  }

  refused_alone : (t : List ℕ) (v : Watch) (p : PrivateCluster) → KeepsRows t c p
      → IsRefusedAlone t v p c.state e kept.outs c'.state → whole.IsRefusedAlone t v p c e kept.outs c'
  refused_alone t v p keep is = record {
    happening = is.happening;
    is_added = is.is_added;
    deciding = is.deciding;
    decides = is.decides;
    decision = is.decision;
    refused = is.refused;
    stands = record {
      stands = is.stands;
      keeps = keeps t p (when_decided is.decision p is.happening)
          (rows_stay (λ _ _ _ _. is.decision) p is.happening
          (one_beside is.happening (adds t v e) is.is_added (adds_beside t v e beside))) keep;
    };
    told = is.told;
    fits = is.fits;
  }

  pub kept_over : whole.Kept c e c'
  kept_over = record {
    follows = kept.follows;
    asked = λ clean. kept.asked;
    outs = kept.outs;
    appended = kept.appended;
    tenants = λ clean t v p given.
        elim (kept.tenants t v p
        (record { follows = given.follows; asked = given.asked; stands = given.stands.stands })) [
          | inl is ↦ inl (alone t v p given.stands.keeps is)
          | inr is ↦ inr (refused_alone t v p given.stands.keeps is)
        ];
    front = kept.front;
    owned = kept.owned;
    roster = subst (IsSameRoster (roster_of c'.state)) (sym (roster_beside e (roster_of c.state) beside)) kept.roster;
    clock = kept.clock;
    limits = kept.limits;
    service_key = kept.service_key;
    refused = kept.refused;
    faults = kept.faults;
  }

-- .. where all stores are as they were
pub step_beside : (w : State) (e : Event) (w' : State) → leaves_ring e ≡ true → Kept w e w' → (shelves : List Shelf)
    → Step (over w shelves) e (over w' shelves)
step_beside w e w' beside kept shelves = record {
  ends = inl (kept_over (over w shelves) e (over w' shelves) beside kept (λ i down. refl));
  clean = λ i clean. clean;
}
