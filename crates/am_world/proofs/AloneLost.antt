-- A message that the transport gives up keeps the simulation.
use Rattle.std.proofs.Common.{◌≡◌, ◌≢◌, ◌⊎◌, ◌∙◌, inl, inr, ℕ, ◌&&◌, true, false, List, [], ◌∷◌, ◌++◌, None, Some}
use Rattle.std.proofs.Common.{option_map, refl, sym, ap, subst, if◌then◌else◌}
use Rattle.std.proofs.lemmas.Bool.{false_from_ne_true, false≢true}
use Rattle.std.proofs.lemmas.List.{append-nil}
use Rattle.am_cluster.specs.Courses.{after_all, course, course_by, fits_all, handled_by, posted_in, refusal_of}
use Rattle.am_cluster.specs.Courses.{told_all}
use Rattle.am_cluster.specs.Deciding.{deciding_at}
use Rattle.am_cluster.specs.Events.{Lose}
use Rattle.am_cluster.specs.Happening.{Lost}
use Rattle.am_cluster.specs.Messages.{Message}
use Rattle.am_cluster.specs.Operating.{decision_on}
use Rattle.am_cluster.specs.Outputs.{front_told}
use Rattle.am_cluster.specs.Patterns.{AreAllBuilt}
use Rattle.am_cluster.specs.PrivateCluster.{Course, PrivateCluster, unchanged}
use Rattle.am_cluster.specs.Roster.{IsSameRoster}
use Rattle.am_cluster.specs.Replying.{WaitOver}
use Rattle.am_cluster.specs.Sent.{with_given_up}
use Rattle.am_cluster.specs.View.{Watch, adds, watch}
use Rattle.am_cluster.proofs.Named.{course_kept}
use Rattle.am_cluster.specs.Naming.{NamesOnce}
use Rattle.am_limit.specs.Books.{limits_of}
use Rattle.am_messages.specs.Names.{same_name}
use Rattle.am_messages.specs.Posted.{Loses, posted_at}
use Rattle.am_messages.specs.declared.messages.Posted.{Posted}
use Rattle.am_messages.specs.declared.name.MessageName.{MessageName}
use Rattle.am_messages.proofs.Orders.{one_name}
use Rattle.am_world.specs.Places.{bytes_at, incarnation_at, known_at, local_at, refused_at, up_at}
use Rattle.am_world.specs.Simulation.{IsPostedAlike, IsSameBeside, Stands, fault_count, limits_in, put_out}
use Rattle.am_world.specs.Simulation.{roster_of}
use Rattle.am_world.specs.declared.common.Common.{Common}
use Rattle.am_world.specs.declared.state.State.{State}
use Rattle.am_tenant.specs.Names.{same}
use Rattle.am_tenant.proofs.Same.{same-refl, same_tells}
use Rattle.am_world.proofs.Beside.{IsAsAlone, Kept}
use Rattle.am_world.proofs.Alone.{Over}
use Rattle.am_world.proofs.AloneKept.{adds_idle, kept_nothing}
use Rattle.am_world.proofs.AlonePlaces.{roster_then}
use Rattle.am_world.proofs.AloneDelivered.{posted_too}
use Rattle.am_world.proofs.Posted.{given_up_alike}

-- ---- one that isn't there

lost_refused : (p : PrivateCluster) (from k to count : ℕ) → posted_in p from k to count ≡ None
    → course p (Lost from k to count) ≡ unchanged p
unfolding course_by refusal_of
lost_refused p from k to count none = rw none refl

pub kept_lost_unsent : (w : State) (name : MessageName) → posted_at name w.messages ≡ None → Kept w (Lose name) w
unfolding watch adds front_told deciding_at
kept_lost_unsent w name none =
    kept_nothing w (Lose name) (λ v follows. refl)
    (λ t v p given. adds_idle t name.tenant v p (Lose name) (Lost name.from name.incarnation name.to name.count) refl
    (λ own. lost_refused p name.from name.incarnation name.to name.count
    (posted_too w name p (subst (λ s. Stands s w p) own given.stands)
    ∙ ap (option_map (λ (posted : Posted). posted.message)) none)) (λ own. tt))
    (λ v follows. refl) refl (λ t limits. refl) (λ i. refl)

-- ---- one that is

-- the world without it
pub record IsLost (w w' : State) (name : MessageName) : Type 0 where
  pub loses : Loses name w.messages w'.messages
  pub instances : w'.instances ≡ w.instances
  pub beside : IsSameBeside w w'
  pub outputs : put_out w' ≡ put_out w
  pub faults : fault_count w' ≡ fault_count w

lost_course : (p : PrivateCluster) (from k to count : ℕ) (message : Message)
    → posted_in p from k to count ≡ Some message
    → course p (Lost from k to count) ≡ unchanged (record p { sent = with_given_up from k to count p.sent })
unfolding course_by refusal_of handled_by
lost_course p from k to count message there = rw there refl

module _ (w w' : State) (name : MessageName) (k : IsLost w w' name) where
  roster : IsSameRoster (roster_of w') (roster_of w)
  roster = record {
    rings = ap (λ (common : Common). (roster_of (record w { common = common })).rings) k.beside.common;
    known = λ i. ap (known_at i) k.instances;
    up = λ i. ap (up_at i) k.instances;
    incarnation = λ i. ap (incarnation_at i) k.instances;
    first = ap (λ (common : Common). common.first) k.beside.common;
  }

  -- a tenant has what a cluster has that differs by what was sent alone
  stands_but : (t : List ℕ) (p q : PrivateCluster) → Stands t w p → q ≡ record p { sent = q.sent }
      → IsPostedAlike t w' q → NamesOnce q → Stands t w' q
  stands_but t p q s same posted named = record {
    tenant = ap (λ (x : PrivateCluster). x.tenant) same ∙ s.tenant;
    replicas_by = ap (λ (x : PrivateCluster). x.replicas_by) same ∙ s.replicas_by;
    service_key = ap (λ (common : Common). common.service_key) k.beside.common ∙ s.service_key
        ∙ sym (ap (λ (x : PrivateCluster). x.service_key) same);
    clock = k.beside.clock ∙ s.clock ∙ sym (ap (λ (x : PrivateCluster). x.clock) same);
    limits = (λ d. limits_in (record w { common = k.beside.common d }) t) ∙ s.limits
        ∙ sym (ap (λ (x : PrivateCluster). x.limits) same);
    roster = subst (IsSameRoster (roster_of w')) (sym (ap (λ (x : PrivateCluster). x.roster) same))
        (roster_then (roster_of w') (roster_of w) p.roster roster s.roster);
    local = λ i. ap (local_at t i) k.instances ∙ s.local i ∙ sym (ap (λ (x : PrivateCluster). x.at i) same);
    posted = posted;
    named = named;
  }

  own_lost : (there : Posted) (v : Watch) (p : PrivateCluster) → posted_at name w.messages ≡ Some there
      → Stands name.tenant w p → IsAsAlone name.tenant v p (Lose name) [] w'
  unfolding adds deciding_at
  own_lost there v p found s = record {
    stands = subst (λ hs. Stands name.tenant w' (after_all p hs)) (sym one)
        (subst (Stands name.tenant w') (sym (ap (λ (c : Course). c.cluster) is))
        (stands_but name.tenant p q s refl posted named));
    told = λ u later. sym (ap (told_all p) one ∙ ap (λ (c : Course). c.outputs ++ []) is);
    fits = ap (fits_all p) one ∙ ap (λ (c : Course). c.fits && true) is;
    built = subst (AreAllBuilt p) (sym one) (tt, tt);
  }
    where
      q : PrivateCluster
      q = record p { sent = with_given_up name.from name.incarnation name.to name.count p.sent }

      is : course p (Lost name.from name.incarnation name.to name.count)
          ≡ unchanged (record p { sent = with_given_up name.from name.incarnation name.to name.count p.sent })
      is = lost_course p name.from name.incarnation name.to name.count there.message
          (posted_too w name p s ∙ ap (option_map (λ (posted : Posted). posted.message)) found)

      one : adds name.tenant v (Lose name) ≡ Lost name.from name.incarnation name.to name.count ∷ []
      one = ap (λ b. if b then Lost name.from name.incarnation name.to name.count ∷ [] else []) (same-refl name.tenant)

      named : NamesOnce (record p { sent = with_given_up name.from name.incarnation name.to name.count p.sent })
      named = subst NamesOnce (ap (λ (c : Course). c.cluster) is)
          (course_kept (decision_on p.service_key) p (Lost name.from name.incarnation name.to name.count) s.named)

      posted : IsPostedAlike name.tenant w'
          (record p { sent = with_given_up name.from name.incarnation name.to name.count p.sent })
      posted from era to count =
          let other : MessageName =
          record { tenant = name.tenant; from = from; incarnation = era; to = to; count = count } in
          k.loses other
          ∙ ap (λ o. if same_name name other then None else o) (s.posted from era to count)
          ∙ sym (given_up_alike p.clock name.from name.incarnation name.to name.count name.tenant
          from era to count p.sent)

  other_lost : (t : List ℕ) (v : Watch) (p : PrivateCluster) → same t name.tenant ≡ false → Stands t w p
      → IsAsAlone t v p (Lose name) [] w'
  unfolding adds
  other_lost t v p apart s = record {
    stands = subst (λ hs. Stands t w' (after_all p hs)) (sym none) (stands_but t p p s refl posted s.named);
    told = λ u later. sym (ap (told_all p) none);
    fits = ap (fits_all p) none;
    built = subst (AreAllBuilt p) (sym none) tt;
  }
    where
      none : adds t v (Lose name) ≡ []
      none = ap (λ b. if b then Lost name.from name.incarnation name.to name.count ∷ [] else []) apart

      named_else : (other : MessageName) → other.tenant ≡ t → same_name name other ≡ false
      named_else other of_it = false_from_ne_true (same_name name other) (λ e.
          let one : name.tenant ≡ t = ap (λ (n : MessageName). n.tenant) (one_name name other e) ∙ of_it in
          false≢true (sym apart ∙ ap (same t) one ∙ same-refl t))

      posted : IsPostedAlike t w' p
      posted from era to count =
          let other : MessageName = record { tenant = t; from = from; incarnation = era; to = to; count = count } in
          k.loses other
          ∙ ap (λ b. if b then None else posted_at other w.messages) (named_else other refl)
          ∙ s.posted from era to count

  pub kept_lose : (there : Posted) → posted_at name w.messages ≡ Some there → Kept w (Lose name) w'
  unfolding watch front_told
  kept_lose there found = record {
    follows = λ v follows. record {
      reading = λ c i. ap (bytes_at c i) k.instances ∙ follows.reading c i;
      roster = roster_then (roster_of w') (roster_of w) v.roster roster follows.roster;
    };
    asked = λ v follows new asked t i.
        subst (λ xs. WaitOver (Over v t) (local_at t i xs).operations) (sym k.instances) (asked t i);
    outs = [];
    appended = k.outputs ∙ sym (append-nil (put_out w));
    tenants = λ t v p given. inl (by_tenant t v p given.stands (same_tells t name.tenant));
    front = λ v follows asked u later. refl;
    owned = λ v follows asked u later. refl;
    roster = roster;
    clock = k.beside.clock;
    limits = λ t. ap (λ (common : Common). limits_of t common.limits) k.beside.common;
    service_key = ap (λ (common : Common). common.service_key) k.beside.common;
    refused = λ i. ap (refused_at i) k.instances;
    faults = k.faults;
  }
    where
      by_tenant : (t : List ℕ) (v : Watch) (p : PrivateCluster) → Stands t w p
          → ((same t name.tenant ≡ true) × (t ≡ name.tenant)) ⊎ ((same t name.tenant ≡ false) × (t ≢ name.tenant))
          → IsAsAlone t v p (Lose name) [] w'
      by_tenant t v p s (inl mine) =
          subst (λ x. IsAsAlone x v p (Lose name) [] w') (sym mine.1)
          (own_lost there v p found (subst (λ x. Stands x w p) mine.1 s))
      by_tenant t v p s (inr other) = other_lost t v p other.0 s
