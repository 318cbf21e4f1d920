-- What a site does for one tenant where it goes by another ring, as the instance does it.
use Rattle.std.proofs.Common.{◌≡◌, ◌∙◌, ◌⊎◌, ℕ, ◌<◌, Bool, true, false, ◌&&◌, List, [], ◌∷◌, length, map, Option}
use Rattle.std.proofs.Common.{Some, None, arith}
use Rattle.std.proofs.Common.{inl, inr, ap, refl, sym, subst, if◌then◌else◌}
use Rattle.std.proofs.lemmas.Bool.{false≢true}
use Rattle.am_cluster.specs.Events.{Output}
use Rattle.am_cluster.specs.Here.{Here, is_replica_here}
use Rattle.am_cluster.specs.Local.{Local}
use Rattle.am_cluster.specs.RingChanges.{ring_learned}
use Rattle.am_context.proofs.Changes.{other}
use Rattle.am_current.specs.Current.{configuration_in}
use Rattle.am_item.specs.declared.fault.Fault.{Fault}
use Rattle.am_item.specs.declared.fault.Fault.TheVariants.{OutOfMemory, CountsExhausted, PatternNotBuilt, StoreRefused}
use Rattle.am_item.specs.declared.item.Item.{Item}
use Rattle.am_labels.specs.declared.Label.{Label}
use Rattle.am_match.specs.Matchers.{patterns_of}
use Rattle.am_members.specs.declared.known.Known.{Known}
use Rattle.am_muting.specs.Failing.{HasUnanswered}
use Rattle.am_node.specs.Held.{local_of as local_in_node}
use Rattle.am_node.specs.Local.{dropped}
use Rattle.am_node.specs.Storing.{AreRowsOf, AreStored, LeavesStore}
use Rattle.am_ring.specs.Instances.{is_among}
use Rattle.am_ring.specs.Replicas.{replicas}
use Rattle.am_route.specs.Asked.{route_matchers}
use Rattle.am_rows.specs.Refusing.{MayRefuse, Medium}
use Rattle.am_rows.specs.Rows.{rows_of, stored_in}
use Rattle.am_site.specs.Here.{here_of}
use Rattle.am_site.specs.InOrder.{IsAtPosition, IsInOrder}
use Rattle.am_site.specs.Learning.{MayLearn, StopsLearning, left_of, stops_being_replica}
use Rattle.am_site.specs.Locals.{local_of}
use Rattle.am_site.specs.Reacting.{KeepsOthers, Makes}
use Rattle.am_site.specs.declared.here.Here.{Here as Given}
use Rattle.am_site.specs.declared.site.Site.{Site}
use Rattle.am_tenant.specs.Names.{same}
use Rattle.am_tenant.proofs.Same.{same_tells}
use Rattle.am_instance.specs.Changing.{MayTurn, ReactsAll, StopsLearning as StopsLearningAll, StopsTurning}
use Rattle.am_instance.specs.Changing.{StopsTurningAll}
use Rattle.am_instance.specs.Changing.{learned, learning, rows_held, rows_kept, rows_learned, rows_turned, turning}
use Rattle.am_instance.specs.Here.{Circumstances, IsGiven, here_on, three_on}
use Rattle.am_instance.specs.Instance.{local_in, node_local_in}
use Rattle.am_instance.specs.Leaving.{IsLeft, LeavesEach, only_for}
use Rattle.am_instance.specs.Shelves.{Shelf}
use Rattle.am_instance.specs.Ticks.{IsDone, said_of}
use Rattle.am_instance.specs.Whole.{IsWhole}
use Rattle.am_instance.specs.declared.instance.Instance.{Instance}
use Rattle.am_instance.proofs.Held.{learned_rows}
use Rattle.am_instance.proofs.Reacting.{whose}
use Rattle.am_instance.proofs.Whole.{yours}

-- alerts of which there are plans are held
abbrev since_of : List Label × Known → List Label × ℕ
since_of a = (a.0, a.1.since)

some_held : (alerts : List (List Label × Known)) → 0 < length alerts → 0 < length (map since_of alerts)
some_held (a ∷ alerts) some = omega arith
some_held [] some = some

module _ (around : Circumstances) (x : Instance) (tenant : List ℕ) (given : Given) (is : IsGiven around x tenant given) where
  pub keeps_given : (site : Site) → KeepsOthers given.tenant.now x.site site → KeepsOthers tenant x.site site
  keeps_given site keeps = subst (λ s. KeepsOthers s x.site site) (whose around x tenant given is) keeps

  module _ (before : List ℕ) where
    pub order_given_learn : (site : Site)
        → ((was : Here) → MayLearn was (here_of given) before x.site → IsInOrder (here_of given) site)
        → (was : Here) → MayLearn was (here_on around x tenant) before x.site → IsInOrder (here_on around x tenant) site
    order_given_learn site order was may =
        subst (λ h. IsInOrder h site) is.here
        (order was (subst (λ h. MayLearn was h before x.site) (sym is.here) may))

    -- ---- why it stops

    pub stops_given : (refused : List (List ℕ)) (fault : Fault) → StopsLearning refused given before x.site fault
        → StopsTurning around x before tenant refused fault
    unfolding local_in local_of here_on
    stops_given refused OutOfMemory stops = tt
    stops_given refused CountsExhausted stops =
        ap (λ h. (ring_learned h before (local_of tenant x.site)).fits) (sym is.here)
        ∙ ap (λ s. (ring_learned (here_of given) before (local_of s x.site)).fits) (sym (whose around x tenant given is))
        ∙ stops
    stops_given refused PatternNotBuilt (replica, (apart, (some, unanswered))) = (
      subst (λ h. is_replica_here h ≡ true) is.here replica,
      λ at. apart (subst (λ h. IsAtPosition h x.site) (sym is.here) at),
      some_held (local_in_node tenant x.site.node).plan.grouped.alerts
          (subst (λ s. 0 < length (local_in_node s x.site.node).plan.grouped.alerts) (whose around x tenant given is) some),
      subst (λ s. HasUnanswered refused
          (patterns_of (route_matchers (configuration_in (local_in_node s x.site.node).held).routes)))
          (whose around x tenant given is) unanswered,
    )
    stops_given refused StoreRefused stops = subst (λ h. stops_being_replica h before ≡ true) is.here stops

    -- ---- what it leaves in the store

    abbrev kept : List ℕ → List Item
    kept t = rows_kept (here_on around x t) before (rows_held x t)

    -- where all went well
    pub left_well : (site : Site) (old new : Shelf)
        → Makes given.tenant.now (λ l. (ring_learned (here_of given) before l).local) x.site site
        → AreStored site.node new.pairs
        → LeavesEach (rows_held x) (only_for tenant kept (rows_held x)) None old new
    unfolding local_in local_of
    left_well site old new makes stored = record {
      rows = λ t. stored t ∙ elim (same_tells t tenant) [
        | inl own ↦ mine t own.0 own.1
        | inr apart ↦ rw apart.0 (ap (λ (l : Local). stored_in l.held) (other t tenant _ _ _ apart.0 (made t)))
      ];
      cause = λ is. absurd (let clash = is in cc);
    }
      where
        made : (t : List ℕ) → local_of t site
            ≡ (if same t tenant then (ring_learned (here_of given) before (local_of t x.site)).local else local_of t x.site)
        made t = subst (λ s. local_of t site
            ≡ (if same t s then (ring_learned (here_of given) before (local_of t x.site)).local else local_of t x.site))
            (whose around x tenant given is) (makes t)

        mine : (t : List ℕ) → same t tenant ≡ true → t ≡ tenant
            → stored_in (local_of t site).held ≡ only_for tenant kept (rows_held x) t
        mine t own one =
            rw own
            (ap (λ (l : Local). stored_in l.held) (yours t tenant _ _ _ own (made t))
            ∙ ap (λ h. stored_in (ring_learned h before (local_of t x.site)).local.held) (is.here ∙ ap (here_on around x) (sym one))
            ∙ learned_rows (here_on around x t) before (local_of t x.site))

    -- where a fault stopped it
    pub left_given : (fault : Fault) (old new : Shelf)
        → LeavesStore (λ t. local_in_node t x.site.node) (λ t. left_of given before t (local_in_node t x.site.node)) ⊥
        (Some fault) old.medium new.medium new.pairs
        → LeavesEach (rows_held x) (only_for tenant kept (rows_held x)) (Some fault) old new
    unfolding local_in local_of stored_in
    left_given fault old new left = record {
      rows = λ t shut. by t (left.rows shut);
      cause = λ refused. caused (left.cause refused);
    }
      where
        caused : MayRefuse old.medium new.medium ⊎ ⊥ → MayRefuse old.medium new.medium
        caused (inl may) = may
        caused (inr never) = absurd never

        dropped_rows : (own stops : Bool) (t : List ℕ) → stored_in (if own && stops then
            dropped (local_in_node t x.site.node) else local_in_node t x.site.node).held
            ≡ (if own then (if stops then [] else rows_held x t) else rows_held x t)
        dropped_rows true true t = refl
        dropped_rows true false t = refl
        dropped_rows false stops t = refl

        given_here : (t : List ℕ) → same t tenant ≡ true → here_of given ≡ here_on around x t
        given_here t mine = elim (same_tells t tenant) [
          | inl own ↦ is.here ∙ ap (here_on around x) (sym own.1)
          | inr apart ↦ absurd (false≢true (sym apart.0 ∙ mine))
        ]

        -- .. are those that are kept
        same_rows : (t : List ℕ) → stored_in (left_of given before t (local_in_node t x.site.node)).held
            ≡ only_for tenant kept (rows_held x) t
        same_rows t =
            ap (λ s. stored_in (if same t s && stops_being_replica (here_of given) before
            then dropped (local_in_node t x.site.node) else local_in_node t x.site.node).held) (whose around x tenant given is)
            ∙ dropped_rows (same t tenant) (stops_being_replica (here_of given) before) t
            ∙ at (same t tenant) refl
          where
            at : (own : Bool) → same t tenant ≡ own
                → (if own then (if stops_being_replica (here_of given) before then [] else rows_held x t) else rows_held x t)
                ≡ (if own then kept t else rows_held x t)
            at true mine = ap (λ h. if stops_being_replica h before then [] else rows_held x t) (given_here t mine)
            at false apart = refl

        by : (t : List ℕ) → AreRowsOf (λ t. local_in_node t x.site.node) new.pairs
            ⊎ AreRowsOf (λ t. left_of given before t (local_in_node t x.site.node)) new.pairs
            → (rows_of t new.pairs ≡ rows_held x t) ⊎ (rows_of t new.pairs ≡ only_for tenant kept (rows_held x) t)
        by t (inl rows) = inl (rows t)
        by t (inr rows) = inr (rows t ∙ same_rows t)

    -- .. by the ring before, whose three these are
    pub left_by_ring : (ring : List ℕ) → before ≡ replicas tenant ring → (fault : Option Fault) (old new : Shelf)
        → LeavesEach (rows_held x) (only_for tenant kept (rows_held x)) fault old new
        → LeavesEach (rows_held x) (only_for tenant (rows_turned around ring x) (rows_held x)) fault old new
    left_by_ring ring three fault old new left = record {
      rows = λ t. subst (λ rows. IsLeft fault new.medium.is_shut (rows_held x t) rows (rows_of t new.pairs))
          (alike t) (left.rows t);
      cause = left.cause;
    }
      where
        alike : (t : List ℕ)
            → only_for tenant kept (rows_held x) t ≡ only_for tenant (rows_turned around ring x) (rows_held x) t
        alike t = elim (same_tells t tenant) [
          | inl own ↦
              rw own.0
              (ap (λ is. rows_kept (here_on around x t) is (rows_held x t)) (three ∙ ap (λ s. replicas s ring) (sym own.1)))
          | inr apart ↦ rw apart.0 refl
        ]

-- memory ran out behind a call that went well
pub left_in_memory : (before kept : List ℕ → List Item) (old new : Shelf) → LeavesEach before kept None old new
    → LeavesEach before kept (Some OutOfMemory) old new
left_in_memory before kept old new left = record {
  rows = λ t shut. inr (left.rows t);
  cause = λ is. absurd (let clash = is in cc);
}

-- .. or before anything was done
pub left_untouched : (before kept : List ℕ → List Item) (shelf : Shelf)
    → ((t : List ℕ) → rows_of t shelf.pairs ≡ before t)
    → LeavesEach before kept (Some OutOfMemory) shelf shelf
left_untouched before kept shelf rows = record {
  rows = λ t shut. inl (rows t);
  cause = λ is. absurd (let clash = is in cc);
}

-- ---- the ring before

module _ (around : Circumstances) (x : Instance) (before : List ℕ) (three : (t : List ℕ) → three_on around x t ≡ replicas t before) where
  abbrev next : Instance
  next = learned x

  pub may_turn : next.known < length around.rings → IsWhole around x → MayTurn around before next
  unfolding here_on local_in
  may_turn known whole = record {
    known = known;
    learns = λ t. (
      here_on around x t,
      record {
        tenant = refl;
        order = whole.order t;
        idle = λ none apart. whole.idle t (ap (is_among x.number) (three t) ∙ apart);
      },
    );
    timed = whole.timed;
    incarnation = whole.incarnation;
    noted = whole.noted;
  }

  pub learns_all : (x' : Instance) (outs outs' : List Output) → ReactsAll around (turning before) next x' outs outs'
      → ReactsAll around (learning around x) next x' outs outs'
  learns_all x' outs outs' some = record {
    all = some.all;
    outputs = some.outputs;
    does = λ t. subst (λ is. IsDone (ring_learned (here_on around next t) is (local_in t next)) (local_in t x') (said_of t some.all))
        (sym (three t)) (some.does t);
    refused = some.refused;
  }

  pub stops_learning : (refused : List (List ℕ)) (fault : Fault) → StopsTurningAll around next before refused fault
      → StopsLearningAll around x refused fault
  stops_learning refused OutOfMemory stops = tt
  stops_learning refused CountsExhausted (t, noted, stops) =
      (t, noted, subst (λ is. StopsTurning around next is t refused CountsExhausted) (sym (three t)) stops)
  stops_learning refused PatternNotBuilt (t, noted, stops) =
      (t, noted, subst (λ is. StopsTurning around next is t refused PatternNotBuilt) (sym (three t)) stops)
  stops_learning refused StoreRefused (t, noted, stops) =
      (t, noted, subst (λ is. StopsTurning around next is t refused StoreRefused) (sym (three t)) stops)

  pub left_learned : (fault : Option Fault) (old new : Shelf)
      → LeavesEach (rows_held next) (rows_turned around before next) fault old new
      → LeavesEach (rows_held x) (rows_learned around x) fault old new
  unfolding local_in
  left_learned fault old new left = record {
    rows = λ t. subst (λ is. IsLeft fault new.medium.is_shut (rows_held x t)
        (rows_kept (here_on around next t) is (rows_held x t)) (rows_of t new.pairs)) (sym (three t)) (left.rows t);
    cause = left.cause;
  }
