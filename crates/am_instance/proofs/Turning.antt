-- An instance goes by another ring, for one tenant after the other.
use Rattle.std.proofs.Common.{◌≡◌, ◌∙◌, ◌⊎◌, ℕ, ◌<◌, Bool, true, false, List, [], ◌∷◌, ◌++◌, length, Some, None}
use Rattle.std.proofs.Common.{inl, inr, ap, refl, sym, subst, if◌then◌else◌}
use Rattle.std.proofs.lemmas.Bool.{cases_Bool, false≢true}
use Rattle.am_cluster.specs.Events.{Output}
use Rattle.am_cluster.specs.Here.{Here, is_replica_here}
use Rattle.am_cluster.specs.Local.{Local, blank}
use Rattle.am_cluster.specs.Plans.{position_of}
use Rattle.am_cluster.specs.Reactions.{Reaction, Said, stays}
use Rattle.am_cluster.specs.RingChanges.{ring_learned}
use Rattle.am_context.proofs.Changes.{other}
use Rattle.am_current.specs.Current.{configuration_in}
use Rattle.am_item.specs.declared.fault.Fault.{Fault}
use Rattle.am_item.specs.declared.fault.Fault.TheVariants.{OutOfMemory, CountsExhausted, PatternNotBuilt, StoreRefused}
use Rattle.am_item.specs.declared.item.Item.{Item}
use Rattle.am_match.specs.Matchers.{patterns_of}
use Rattle.am_muting.specs.Failing.{HasUnanswered}
use Rattle.am_ring.specs.Instances.{is_among}
use Rattle.am_ring.specs.Replicas.{replicas}
use Rattle.am_route.specs.Asked.{route_matchers}
use Rattle.am_rows.specs.Refusing.{MayRefuse, Wears}
use Rattle.am_rows.specs.Rows.{rows_of, stored_in}
use Rattle.am_rows.proofs.Wearing.{refuses_later}
use Rattle.am_site.specs.InOrder.{IsAtPosition, IsInOrder}
use Rattle.am_site.specs.Learning.{IsIdle, MayLearn, stops_being_replica}
use Rattle.am_site.specs.Locals.{local_of}
use Rattle.am_site.specs.Reacting.{asked_in, position_in}
use Rattle.am_site.specs.declared.site.Site.{Site}
use Rattle.am_site.proofs.InOrder.{blank_in_order, same_in_order}
use Rattle.am_site.proofs.Learned.{learned_away}
use Rattle.am_tenant.specs.Names.{same}
use Rattle.am_tenant.proofs.Same.{same_tells}
use Rattle.am_transfer.specs.Timers.{AreTimed}
use Rattle.am_instance.specs.Changing.{MayTurn, StopsTurning, StopsTurningAll, Turns, rows_held, rows_kept, rows_turned}
use Rattle.am_instance.specs.Changing.{turning}
use Rattle.am_instance.specs.Here.{Circumstances, here_on}
use Rattle.am_instance.specs.Instance.{ReadsOn, local_in, refused_in}
use Rattle.am_instance.specs.Leaving.{IsLeft, LeavesEach, only_for}
use Rattle.am_instance.specs.Shelves.{IsBacked, Shelf}
use Rattle.am_instance.specs.Tenants.{AreAllNoted, is_noted}
use Rattle.am_instance.specs.Whole.{IsWhole}
use Rattle.am_instance.specs.declared.instance.Instance.{Instance}
use Rattle.am_instance.proofs.Among.{ReactsAmong, none_among, one_among}
use Rattle.am_instance.proofs.Elsewhere.{blank_elsewhere}
use Rattle.am_instance.proofs.Held.{learned_rows}
use Rattle.am_instance.proofs.Noting.{neither_more, noted_before}
use Rattle.am_instance.proofs.Turns.{same_here}

-- rows that are these or those
abbrev Either : (one other rows : List Item) → Type 0
Either one other rows = (rows ≡ one) ⊎ (rows ≡ other)

-- what is so of an instance once it did that for these
pub record TurnsThrough (around : Circumstances) (before : List ℕ) (names : List (List ℕ)) (x x' : Instance)
    (told : List Output) : Type 0 where
  pub among : ReactsAmong around (turning before) names x x' told
  pub reads : ReadsOn x x'
  pub refused : refused_in x' ≡ refused_in x
  pub tenants : x'.tenants ≡ x.tenants
  pub order : (t : List ℕ) → is_noted t names ≡ true → IsInOrder (here_on around x t) x'.site
  pub positions : (t : List ℕ) → is_noted t names ≡ false → position_in t x'.site ≡ position_in t x.site
  pub asked : (t : List ℕ) → is_noted t names ≡ false → asked_in t x'.site ≡ asked_in t x.site
  pub timed : AreTimed x'.site.settling
  pub incarnation : x'.site.operations.incarnation ≡ x.incarnation

module _ (around : Circumstances) (before : List ℕ) (x : Instance) (may : MayTurn around before x) where
  pub none_turned : (told : List Output) → told ≡ [] → ReadsOn x x → TurnsThrough around before [] x x told
  none_turned told none reads = record {
    among = none_among around (turning before) x told none;
    reads = reads;
    refused = refl;
    tenants = refl;
    order = λ t noted. absurd (false≢true noted);
    positions = λ t out. refl;
    asked = λ t out. refl;
    timed = may.timed;
    incarnation = may.incarnation;
  }

  module _ (names : List (List ℕ)) (mid : Instance) (told : List Output) (so_far : TurnsThrough around before names x mid told) where
    here_still : (t : List ℕ) → here_on around mid t ≡ here_on around x t
    here_still t = same_here around x mid so_far.reads t

    -- of a tenant to whom it didn't come yet it has what it had
    had : (t : List ℕ) → is_noted t names ≡ false → local_in t mid ≡ local_in t x
    had t out = (so_far.among.others t out).local

    -- what it has of one to whom it came is what that makes
    made : (t : List ℕ) → is_noted t names ≡ true
        → local_in t mid ≡ (ring_learned (here_on around x t) (replicas t before) (local_in t x)).local
    made t noted = (so_far.among.does t noted).local

    -- ---- rows

    rows_made : (t : List ℕ) → is_noted t names ≡ true → rows_held mid t ≡ rows_turned around before x t
    rows_made t noted =
        ap (λ (l : Local). stored_in l.held) (made t noted)
        ∙ learned_rows (here_on around x t) (replicas t before) (local_in t x)

    rows_had : (t : List ℕ) → is_noted t names ≡ false → rows_held mid t ≡ rows_held x t
    rows_had t out = ap (λ (l : Local). stored_in l.held) (had t out)

    rows_coming : (t : List ℕ) → is_noted t names ≡ false
        → rows_turned around before mid t ≡ rows_turned around before x t
    rows_coming t out =
        ap (λ h. rows_kept h (replicas t before) (rows_held mid t)) (here_still t)
        ∙ ap (rows_kept (here_on around x t) (replicas t before)) (rows_had t out)

    module _ (tenant : List ℕ) (fresh : is_noted tenant names ≡ false) where
      -- ---- it may go on with the tenant

      learns_still : (was : Here) → MayLearn was (here_on around x tenant) (replicas tenant before) x.site
          → MayLearn was (here_on around mid tenant) (replicas tenant before) mid.site
      unfolding here_on local_in
      learns_still was learns =
          let still : local_of was.tenant mid.site ≡ local_of was.tenant x.site =
          subst (λ s. local_of s mid.site ≡ local_of s x.site) (sym learns.tenant) (had tenant fresh) in
          record {
            tenant = learns.tenant;
            order = same_in_order was x.site mid.site still
                (subst (λ s. position_in s mid.site ≡ position_in s x.site) (sym learns.tenant) (so_far.positions tenant fresh))
                (subst (λ s. asked_in s mid.site ≡ asked_in s x.site) (sym learns.tenant) (so_far.asked tenant fresh))
                learns.order;
            idle = λ none apart.
                subst IsIdle (sym (had tenant fresh))
                (learns.idle (subst (λ h. is_replica_here h ≡ false) (here_still tenant) none)
                (subst (λ (h : Here). is_among h.instance (replicas tenant before) ≡ false) (here_still tenant) apart));
          }

      -- ---- it went on

      pub one_turned : (new : Instance) (after : List Output) → Turns around before tenant mid new told after
          → ReadsOn x new → TurnsThrough around before (names ++ tenant ∷ []) x new after
      unfolding here_on local_in
      one_turned new after one reads = record {
        among = one_among around (turning before) x names mid told so_far.reads so_far.among tenant fresh new after one.reacts;
        reads = reads;
        refused = one.refused ∙ so_far.refused;
        tenants = one.tenants ∙ so_far.tenants;
        order = λ t noted. elim (same_tells t tenant) [
          | inl is ↦
              subst (λ s. IsInOrder (here_on around x s) new.site) (sym is.1)
              (subst (λ h. IsInOrder h new.site) (here_still tenant)
              (one.order (may.learns tenant).0 (learns_still (may.learns tenant).0 (may.learns tenant).1)))
          | inr apart ↦
              same_in_order (here_on around x t) mid.site new.site (other t tenant _ _ _ apart.0 (one.reacts.local t))
              (one.keeps.positions t apart.0) (one.keeps.asked t apart.0)
              (so_far.order t (noted_before t names tenant apart.0 noted))
        ];
        positions = λ t out.
            let apart = neither_more t names tenant out in
            one.keeps.positions t apart.1 ∙ so_far.positions t apart.0;
        asked = λ t out.
            let apart = neither_more t names tenant out in
            one.keeps.asked t apart.1 ∙ so_far.asked t apart.0;
        timed = one.keeps.timed so_far.timed;
        incarnation = one.keeps.incarnation ∙ so_far.incarnation;
      }

      -- ---- it stopped

      pub stops_turning : is_noted tenant x.tenants ≡ true → (refused : List (List ℕ)) (fault : Fault)
          → StopsTurning around mid (replicas tenant before) tenant refused fault
          → StopsTurningAll around x before refused fault
      unfolding here_on local_in
      stops_turning noted refused OutOfMemory stops = tt
      stops_turning noted refused CountsExhausted stops = (
        tenant,
        noted,
        ap (λ h. (ring_learned h (replicas tenant before) (local_in tenant x)).fits) (sym (here_still tenant))
            ∙ ap (λ l. (ring_learned (here_on around mid tenant) (replicas tenant before) l).fits) (sym (had tenant fresh))
            ∙ stops,
      )
      stops_turning noted refused PatternNotBuilt (replica, apart, some, unanswered) = (
        tenant,
        noted,
        (
          subst (λ h. is_replica_here h ≡ true) (here_still tenant) replica,
          λ at. apart
              (subst (λ h. IsAtPosition h mid.site) (sym (here_still tenant))
              (so_far.positions tenant fresh ∙ at ∙ ap (λ l. position_of (here_on around x tenant) l) (sym (had tenant fresh)))),
          subst (λ (l : Local). 0 < length l.sinces) (had tenant fresh) some,
          subst (λ (l : Local). HasUnanswered refused (patterns_of (route_matchers (configuration_in l.held).routes)))
              (had tenant fresh) unanswered,
        ),
      )
      stops_turning noted refused StoreRefused stops = (
        tenant,
        noted,
        subst (λ h. stops_being_replica h (replicas tenant before) ≡ true) (here_still tenant) stops,
      )

      -- .. and left these rows
      pub left_turned : (old between new : Shelf) (fault : Fault) → Wears old.medium between.medium
          → Wears between.medium new.medium
          → LeavesEach (rows_held mid) (only_for tenant (rows_turned around before mid) (rows_held mid)) (Some fault)
          between new
          → LeavesEach (rows_held x) (rows_turned around before x) (Some fault) old new
      left_turned old between new fault first last left = record {
        rows = λ t shut. elim (same_tells t tenant) [
          | inl is ↦ mine t is.0 (ap (λ s. is_noted s names) is.1 ∙ fresh) (left.rows t shut)
          | inr apart ↦ others t apart.0 (left.rows t shut)
        ];
        cause = λ is. refuses_later old.medium between.medium new.medium first last (left.cause is);
      }
        where
          mine : (t : List ℕ) → same t tenant ≡ true → is_noted t names ≡ false
              → Either (rows_held mid t) (only_for tenant (rows_turned around before mid) (rows_held mid) t)
              (rows_of t new.pairs)
              → Either (rows_held x t) (rows_turned around before x t) (rows_of t new.pairs)
          mine t own out (inl rows) = inl (rows ∙ rows_had t out)
          mine t own out (inr rows) = inr (rows ∙ rw own (rows_coming t out))

          still : (t : List ℕ) → rows_of t new.pairs ≡ rows_held mid t
              → Either (rows_held x t) (rows_turned around before x t) (rows_of t new.pairs)
          still t rows = elim (cases_Bool (is_noted t names)) [
            | inl noted ↦ inr (rows ∙ rows_made t noted)
            | inr out ↦ inl (rows ∙ rows_had t out)
          ]

          others : (t : List ℕ) → same t tenant ≡ false
              → Either (rows_held mid t) (only_for tenant (rows_turned around before mid) (rows_held mid) t)
              (rows_of t new.pairs)
              → Either (rows_held x t) (rows_turned around before x t) (rows_of t new.pairs)
          others t apart (inl rows) = still t rows
          others t apart (inr rows) = still t (rows ∙ rw apart refl)

    -- ---- all the way

    module _ (noted : AreAllNoted names x) where
      unnoted : (t : List ℕ) → is_noted t names ≡ false → local_in t x ≡ blank
      unnoted t out = may.noted t (subst (λ ns. is_noted t ns ≡ false) noted.all out)

      pub whole_turned : IsWhole around mid
      unfolding here_on local_in
      whole_turned = record {
        known = subst (λ k. k < length around.rings) (sym so_far.reads.goes.known) may.known;
        order = λ t. subst (λ h. IsInOrder h mid.site) (sym (here_still t)) (each t);
        timed = so_far.timed;
        incarnation = so_far.incarnation ∙ sym so_far.reads.goes.incarnation;
        noted = λ t out.
            let un : is_noted t names ≡ false =
            subst (λ ns. is_noted t ns ≡ false) (so_far.tenants ∙ sym noted.all) out in
            had t un ∙ unnoted t un;
        idle = λ t none. elsewhere t (subst (λ h. is_replica_here h ≡ false) (here_still t) none);
      }
        where
          each : (t : List ℕ) → IsInOrder (here_on around x t) mid.site
          each t = elim (cases_Bool (is_noted t names)) [
            | inl is ↦ so_far.order t is
            | inr out ↦ blank_in_order (here_on around x t) mid.site (had t out ∙ unnoted t out)
          ]

          elsewhere : (t : List ℕ) → is_replica_here (here_on around x t) ≡ false → IsIdle (local_in t mid)
          elsewhere t none = elim (cases_Bool (is_noted t names)) [
            | inl is ↦
                subst IsIdle (sym (made t is))
                (learned_away (here_on around x t) (replicas t before) (local_in t x) none
                ((may.learns t).1.idle none))
            | inr out ↦ blank_elsewhere (local_in t mid) (had t out ∙ unnoted t out)
          ]

      -- the rows of all that are held then are those that are kept
      pub left_all : (old new : Shelf) → mid.up ≡ true → new.is_clean ≡ true → IsBacked mid new
          → LeavesEach (rows_held x) (rows_turned around before x) None old new
      unfolding stored_in
      left_all old new up clean backed = record {
        rows = λ t. backed.stores up clean t ∙ elim (cases_Bool (is_noted t names)) [
          | inl is ↦ rows_made t is
          | inr out ↦
              rows_had t out
              ∙ ap (λ (l : Local). stored_in l.held) (unnoted t out)
              ∙ sym (ap (λ (l : Local). rows_kept (here_on around x t) (replicas t before) (stored_in l.held)) (unnoted t out)
              ∙ none_kept (stops_being_replica (here_on around x t) (replicas t before)))
        ];
        cause = λ is. absurd (let clash = is in cc);
      }
        where
          none_kept : (b : Bool) → (if b then [] else []) ≡ stored_in []
          none_kept true = refl
          none_kept false = refl
