-- The newest ring after an event: it is in order, and has at most one other replica of a tenant than before.
use Rattle.std.proofs.Common.{◌≡◌, ℕ, ◌-◌, Bool, true, false, List, [], ◌∷◌, ◌++◌, length, set, Option, None, Some, refl, sym, ap, subst, ◌∙◌, arith, length-append}
use Rattle.std.specs.Prelude.{IsTrue, slice_get, unwrap_or}
use Rattle.std.proofs.lemmas.Bool.{false≢true}
use Rattle.am_ring.specs.Changes.{join_refusal, leave_refusal, with_instance, without}
use Rattle.am_ring.specs.Instances.{flagged, flags_of, in_order, is_among, is_instance}
use Rattle.am_ring.specs.Replicas.{ReplacesOne}
use Rattle.am_ring.specs.declared.refusal.RingRefusal.{RingRefusal}
use Rattle.am_ring.proofs.Admitted.{may_join, may_leave}
use Rattle.am_ring.proofs.Flags.{flagged-flags_of, flagged-set_false, flagged-set_true, members_again, stranger}
use Rattle.am_ring.proofs.Replaced.{joins_one, leaves_one, same_ring}
use Rattle.am_setup.specs.Setup.{Origin}
use Rattle.am_cluster.specs.Refused.{Refused}
use Rattle.am_cluster.specs.Rings.{Rings, newest_ring}
use Rattle.am_cluster.specs.Roster.{Crashes, Joins, Learns, Leaves, Restarts, RingEvent, Roster, by_ring, opened_roster, ring_event_refusal, ring_now, roster_after, unless_last}

-- ---- the newest of several rings

last_at : (rings : Rings) (ring : List ℕ) → slice_get (rings ++ ring ∷ []) (length rings) ≡ Some ring
last_at [] ring = refl
last_at (r ∷ rings) ring = last_at rings ring

newest-push : (rings : Rings) (ring : List ℕ) → newest_ring (rings ++ ring ∷ []) ≡ ring
newest-push rings ring =
    let last : length (rings ++ ring ∷ []) - 1 ≡ length rings = omega (arith, length-append rings (ring ∷ [])) in
    ap (λ n. unwrap_or (slice_get (rings ++ ring ∷ []) n) []) last ∙ ap (λ o. unwrap_or o []) (last_at rings ring)

-- ---- rings as flags

eight : (ring : List ℕ) → length (flags_of ring) ≡ 8
unfolding flags_of
eight ring = refl

as_flags : (ring : List ℕ) → ring ≡ in_order ring → flagged (flags_of ring) ≡ ring
as_flags ring e = flagged-flags_of ring ∙ sym e

flags_in_order : (flags : List Bool) → flagged flags ≡ in_order (flagged flags)
unfolding in_order
flags_in_order flags = sym (members_again flags)

-- ---- what was not refused

pub ring_agreed : (r : Option RingRefusal) (other : Option Refused) → by_ring r other ≡ None → r ≡ None
ring_agreed None other e = refl
ring_agreed (Some refusal) other e = absurd cc

not_refuted : (b : Bool) → (b ≡ false → ⊥) → IsTrue b
not_refuted true refuted = refl
not_refuted false refuted = absurd (refuted refl)

-- an instance of a ring has the number of one
pub is_member : (ring : List ℕ) (i : ℕ) → ring ≡ in_order ring → is_among i ring ≡ true → IsTrue (is_instance i)
is_member ring i e among =
    not_refuted (is_instance i) (λ isnt. false≢true (sym (stranger (flags_of ring) i isnt) ∙ ap (is_among i) (as_flags ring e) ∙ among))

-- ---- one replica changes

abbrev Changes : List ℕ → List ℕ → Type 0
Changes before after = ((tenant : List ℕ) → ReplacesOne tenant before after) × (after ≡ in_order after)

joined : (ring : List ℕ) (i : ℕ) → ring ≡ in_order ring → join_refusal i ring ≡ None → Changes ring (with_instance i ring)
joined ring i e none =
    let may = may_join i ring none in
    let shown : flagged (flags_of ring) ≡ ring = as_flags ring e in
    let new : is_among i (flagged (flags_of ring)) ≡ false = ap (is_among i) shown ∙ may.new in (
      λ tenant. subst (λ r. ReplacesOne tenant r (with_instance i r)) shown (joins_one tenant (flags_of ring) i (eight ring) may.is new),
      subst (λ r. r ≡ in_order r) (flagged-set_true (flags_of ring) i (eight ring) may.is ∙ ap (with_instance i) shown)
          (flags_in_order (set (flags_of ring) (i - 1) true)),
    )

left : (ring : List ℕ) (i : ℕ) → ring ≡ in_order ring → leave_refusal i ring ≡ None → Changes ring (without i ring)
left ring i e none =
    let may = may_leave i ring none in
    let shown : flagged (flags_of ring) ≡ ring = as_flags ring e in
    let is : IsTrue (is_instance i) = is_member ring i e may.among in
    let among : is_among i (flagged (flags_of ring)) ≡ true = ap (is_among i) shown ∙ may.among in (
      λ tenant. subst (λ r. ReplacesOne tenant r (without i r)) shown (leaves_one tenant (flags_of ring) i (eight ring) is among),
      subst (λ r. r ≡ in_order r) (flagged-set_false (flags_of ring) i (eight ring) is ∙ ap (without i) shown)
          (flags_in_order (set (flags_of ring) (i - 1) false)),
    )

changes : (roster : Roster) (event : RingEvent) → ring_now roster ≡ in_order (ring_now roster)
    → ring_event_refusal event roster ≡ None → Changes (ring_now roster) (ring_now (roster_after event roster))
unfolding ring_event_refusal roster_after
changes roster (Joins i) e none =
    subst (Changes (ring_now roster)) (sym (newest-push roster.rings (with_instance i (ring_now roster))))
    (joined (ring_now roster) i e (ring_agreed (join_refusal i (ring_now roster)) (unless_last i roster) none))
changes roster (Leaves i) e none =
    subst (Changes (ring_now roster)) (sym (newest-push roster.rings (without i (ring_now roster))))
    (left (ring_now roster) i e (ring_agreed (leave_refusal i (ring_now roster)) None none))
changes roster (Crashes i) e none = (λ tenant. same_ring tenant (ring_now roster), e)
changes roster (Restarts i) e none = (λ tenant. same_ring tenant (ring_now roster), e)
changes roster (Learns i) e none = (λ tenant. same_ring tenant (ring_now roster), e)

pub one_replica : (tenant : List ℕ) (roster : Roster) (event : RingEvent) → ring_now roster ≡ in_order (ring_now roster)
    → ring_event_refusal event roster ≡ None → ReplacesOne tenant (ring_now roster) (ring_now (roster_after event roster))
one_replica tenant roster event e none = (changes roster event e none).0 tenant

pub in_order_after : (roster : Roster) (event : RingEvent) → ring_now roster ≡ in_order (ring_now roster)
    → ring_event_refusal event roster ≡ None → ring_now (roster_after event roster) ≡ in_order (ring_now (roster_after event roster))
in_order_after roster event e none = (changes roster event e none).1

-- the ring with which all begins
pub in_order_first : (origin : Origin) → ring_now (opened_roster origin) ≡ in_order (ring_now (opened_roster origin))
in_order_first origin = subst (λ r. r ≡ in_order r) (flagged-flags_of origin.ring) (flags_in_order (flags_of origin.ring))
