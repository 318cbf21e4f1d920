-- What is done for all tenants once an instance was started.
use Rattle.std.proofs.Common.{◌≡◌, ◌∙◌, ◌<◌, ◌⊎◌, ◌++◌, ℕ, Bool, true, false, List, length, inl, inr, ap, refl, sym}
use Rattle.std.proofs.Common.{subst}
use Rattle.am_cluster.specs.Events.{Output}
use Rattle.am_cluster.specs.Here.{Here, is_replica_here}
use Rattle.am_cluster.specs.Local.{Local, blank}
use Rattle.am_cluster.specs.Reactions.{Reaction}
use Rattle.am_cluster.specs.RingChanges.{just_opened, opened}
use Rattle.am_context.proofs.Changes.{other}
use Rattle.am_item.specs.declared.fault.Fault.{Fault}
use Rattle.am_item.specs.declared.fault.Fault.TheVariants.{OutOfMemory, CountsExhausted, PatternNotBuilt, StoreRefused}
use Rattle.am_item.specs.declared.item.Item.{Item}
use Rattle.am_node.specs.Held.{local_of as local_in_node}
use Rattle.am_node.specs.declared.parts.Parts.{Parts}
use Rattle.am_replica.specs.Storing.{fault_for}
use Rattle.am_rows.specs.Refusing.{IsJudged}
use Rattle.am_rows.specs.Rows.{rows_of, stored_in}
use Rattle.am_rows.specs.declared.refusal.StoreRefusal.{StoreRefusal}
use Rattle.am_site.specs.Here.{here_of}
use Rattle.am_site.specs.InOrder.{IsInOrder}
use Rattle.am_site.specs.Learning.{IsIdle}
use Rattle.am_site.specs.Locals.{local_of}
use Rattle.am_site.specs.declared.here.Here.{Here as Given}
use Rattle.am_site.specs.declared.site.Site.{Site}
use Rattle.am_site.proofs.InOrder.{same_in_order}
use Rattle.am_tenant.specs.Names.{same}
use Rattle.am_tenant.proofs.Same.{same_tells}
use Rattle.am_text.specs.declared.failure.Failure.{Failure}
use Rattle.am_text.specs.declared.failure.Failure.TheVariants as failure
use Rattle.am_instance.specs.Changing.{OpensAnew, ReactsAll, ReactsInOrder, StopsOpening, StopsReactingAll, started}
use Rattle.am_instance.specs.Here.{Circumstances, IsGiven, here_on}
use Rattle.am_instance.specs.Instance.{IsSameNode, ReadsAlike, ReadsOn, Starts, local_in, refused_in}
use Rattle.am_instance.specs.Shelves.{IsBacked, Shelf}
use Rattle.am_instance.specs.Tenants.{is_noted}
use Rattle.am_instance.specs.Ticks.{IsDone, said_of}
use Rattle.am_instance.specs.Whole.{IsWhole}
use Rattle.am_instance.specs.declared.instance.Instance.{Instance}
use Rattle.am_instance.specs.declared.restarting.Start.{Start}
use Rattle.am_instance.specs.declared.restarting.Start.TheVariants.{Own}
use Rattle.am_instance.proofs.Among.{ReactsAmong}
use Rattle.am_instance.proofs.Blank.{started_blank}
use Rattle.am_instance.proofs.Elsewhere.{started_elsewhere}
use Rattle.am_instance.proofs.Turns.{same_here}
use Rattle.am_instance.proofs.Whole.{here_alike, yours}

-- what is so of an instance once it did that for these
pub record FollowsThrough (around : Circumstances) (start : Start) (names : List (List ℕ)) (x x' : Instance)
    (told : List Output) : Type 0 where
  pub among : ReactsAmong around (λ t. started start) names x x' told
  pub reads : ReadsOn x x'
  pub refused : refused_in x' ≡ refused_in x
  pub tenants : x'.tenants ≡ x.tenants
  pub whole : IsWhole around x'
  pub node : x'.site.node ≡ x.site.node

-- all stays in order where that is done for one
module _ (around : Circumstances) (start : Start) (x x' : Instance) (reads : ReadsOn x x') (tenant : List ℕ)
    (before after : List Output) (one : ReactsInOrder around tenant (started start) x x' before after) where
  pub whole_followed : IsWhole around x → IsWhole around x'
  unfolding here_on local_in
  whole_followed whole = record {
    known = subst (λ k. k < length around.rings) (sym reads.goes.known) whole.known;
    order = λ t. subst (λ h. IsInOrder h x'.site) (sym (same_here around x x' reads t)) (each t);
    timed = one.keeps.timed whole.timed;
    incarnation = one.keeps.incarnation ∙ whole.incarnation ∙ sym reads.goes.incarnation;
    noted = λ t out. still t (subst (λ names. is_noted t names ≡ false) one.tenants out);
    idle = λ t none. elsewhere t (subst (λ h. is_replica_here h ≡ false) (same_here around x x' reads t) none);
  }
    where
      each : (t : List ℕ) → IsInOrder (here_on around x t) x'.site
      each t = elim (same_tells t tenant) [
        | inl is ↦
            subst (λ s. IsInOrder (here_on around x s) x'.site) (sym is.1) (one.order (whole.order tenant))
        | inr apart ↦
            same_in_order (here_on around x t) x.site x'.site (other t tenant _ _ _ apart.0 (one.reacts.local t))
            (one.keeps.positions t apart.0) (one.keeps.asked t apart.0) (whole.order t)
      ]

      still : (t : List ℕ) → is_noted t x.tenants ≡ false → local_of t x'.site ≡ blank
      still t out = elim (same_tells t tenant) [
        | inl is ↦
            yours t tenant _ _ _ is.0 (one.reacts.local t)
            ∙ ap (λ l. (started start (here_on around x t) l).local) (whole.noted t out)
            ∙ ap (λ (r : Reaction). r.local) (started_blank start (here_on around x t))
        | inr apart ↦ other t tenant _ _ _ apart.0 (one.reacts.local t) ∙ whole.noted t out
      ]

      elsewhere : (t : List ℕ) → is_replica_here (here_on around x t) ≡ false → IsIdle (local_of t x'.site)
      elsewhere t none = elim (same_tells t tenant) [
        | inl is ↦
            subst IsIdle (sym (yours t tenant _ _ _ is.0 (one.reacts.local t)))
            (started_elsewhere (here_on around x t) none start (local_of t x.site) (whole.idle t none))
        | inr apart ↦
            subst IsIdle (sym (other t tenant _ _ _ apart.0 (one.reacts.local t))) (whole.idle t none)
      ]

-- the order of the tenant, as the site keeps it
pub order_followed : (around : Circumstances) (x : Instance) (tenant : List ℕ) (given : Given)
    → IsGiven around x tenant given
    → (site : Site) → (IsInOrder (here_of given) x.site → IsInOrder (here_of given) site)
    → IsInOrder (here_on around x tenant) x.site → IsInOrder (here_on around x tenant) site
order_followed around x tenant given is site order was =
    subst (λ h. IsInOrder h site) is.here (order (subst (λ h. IsInOrder h x.site) (sym is.here) was))

-- ---- a start of its own

-- it goes by the same, and had this once its store was open
module _ (around : Circumstances) (is_clean : Bool) (pairs : List (List ℕ × Item)) (x mid new : Instance)
    (stays : IsSameNode x mid) (outs outs' : List Output) where
  pub opens_anew : Starts x mid → ReadsAlike x mid → ReadsOn mid new
      → (is_clean ≡ true → (t : List ℕ) → local_in t mid ≡ opened (here_on around x t) (rows_of t pairs))
      → ReactsAll around (λ t. started Own) mid new outs outs' → OpensAnew around is_clean pairs x new outs outs'
  opens_anew starts front reads opens some = record {
    starts = record {
      up = reads.goes.up ∙ starts.up;
      cause = reads.goes.cause ∙ starts.cause;
      refused = some.refused ∙ starts.refused;
    };
    front = reads.front ∙ front;
    held = λ t. local_in t mid;
    opens = opens;
    all = some.all;
    outputs = some.outputs ∙ ap (λ os. outs ++ os) (rw (stays.number, stays.incarnation) refl);
    does = λ t. subst (λ h. IsDone (just_opened h (local_in t mid)) (local_in t new) (said_of t some.all))
        (here_alike around x mid stays.number stays.incarnation stays.known t) (some.does t);
  }

-- why it stops where it asks
module _ (around : Circumstances) (pairs : List (List ℕ × Item)) (Reason : Type 0) (x mid : Instance)
    (stays : IsSameNode x mid)
    (opens : (t : List ℕ) → local_in t mid ≡ opened (here_on around x t) (rows_of t pairs)) where
  pub stops_asking : (fault : Fault) → StopsReactingAll around (λ t. started Own) mid fault
      → StopsOpening around pairs Reason x fault
  stops_asking OutOfMemory stops = tt
  stops_asking CountsExhausted (t, past) = (
    t,
    ap (λ l. (just_opened (here_on around x t) l).fits) (sym (opens t))
        ∙ ap (λ h. (just_opened h (local_in t mid)).fits)
        (sym (here_alike around x mid stays.number stays.incarnation stays.known t))
        ∙ past,
  )
  stops_asking PatternNotBuilt stops = absurd stops
  stops_asking StoreRefused stops = absurd stops

-- .. where it opens its store
pub stops_opening : (around : Circumstances) (pairs : List (List ℕ × Item)) (Foreign Cause : Type 0) (x : Instance)
    (failure : Failure StoreRefusal) → IsJudged Foreign Cause failure
    → StopsOpening around pairs (Foreign ⊎ Cause) x (fault_for failure)
stops_opening around pairs Foreign Cause x failure.OutOfMemory judged = tt
stops_opening around pairs Foreign Cause x (failure.Refused why) (inl (is, foreign)) = inl foreign
stops_opening around pairs Foreign Cause x (failure.Refused why) (inr (is, cause)) = inr cause

-- what it does by another's name that goes by the same
module _ (around : Circumstances) (x y : Instance) (number : y.number ≡ x.number) (incarnation : y.incarnation ≡ x.incarnation)
    (known : y.known ≡ x.known) where
  pub opens_alike : (is_clean : Bool) (pairs : List (List ℕ × Item)) (new : Instance) (outs outs' : List Output)
      → refused_in y ≡ refused_in x → ReadsAlike x y
      → OpensAnew around is_clean pairs y new outs outs' → OpensAnew around is_clean pairs x new outs outs'
  opens_alike is_clean pairs new outs outs' refused front anew = record {
    starts = record { up = anew.starts.up; cause = anew.starts.cause; refused = anew.starts.refused ∙ refused };
    front = anew.front ∙ front;
    held = anew.held;
    opens = λ clean t. anew.opens clean t
        ∙ ap (λ h. opened h (rows_of t pairs)) (here_alike around x y number incarnation known t);
    all = anew.all;
    outputs = anew.outputs ∙ ap (λ os. outs ++ os) (rw (number, incarnation) refl);
    does = λ t. subst (λ h. IsDone (just_opened h (anew.held t)) (local_in t new) (said_of t anew.all))
        (here_alike around x y number incarnation known t) (anew.does t);
  }

  pub stops_alike : (pairs : List (List ℕ × Item)) (Reason : Type 0) (fault : Fault)
      → StopsOpening around pairs Reason y fault → StopsOpening around pairs Reason x fault
  stops_alike pairs Reason OutOfMemory stops = tt
  stops_alike pairs Reason CountsExhausted (t, past) = (
    t,
    ap (λ h. (just_opened h (opened h (rows_of t pairs))).fits)
        (sym (here_alike around x y number incarnation known t))
        ∙ past,
  )
  stops_alike pairs Reason PatternNotBuilt stops = absurd stops
  stops_alike pairs Reason StoreRefused stops = stops

-- what is done then leaves what is stored
pub followed_stored : (mid new : Instance) → new.site.node ≡ mid.site.node → (t : List ℕ)
    → stored_in (local_in t new).held ≡ stored_in (local_in t mid).held
unfolding local_in local_of
followed_stored mid new node t = ap (λ (n : Parts). stored_in (local_in_node t n).held) node

pub followed_backed : (mid new : Instance) → ReadsOn mid new → new.site.node ≡ mid.site.node → (shelf : Shelf)
    → IsBacked mid shelf → IsBacked new shelf
unfolding local_in local_of
followed_backed mid new reads node shelf backed = record {
  opens = λ up. backed.opens (sym reads.goes.up ∙ up);
  stores = λ up clean t.
      backed.stores (sym reads.goes.up ∙ up) clean t
      ∙ ap (λ (n : Parts). stored_in (local_in_node t n).held) (sym node);
}
