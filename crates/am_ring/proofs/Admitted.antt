-- What holds of an instance that isn't refused.
use Rattle.std.proofs.Common.{◌≡◌, ℕ, ◌<◌, Bool, true, false, ◌||◌, not, cond, leb, List, length, None, Some, refl}
use Rattle.std.specs.Prelude.{IsTrue}
use Rattle.std.proofs.lemmas.Bool.{leb-false, not-false, or_parts}
use Rattle.am_ring.specs.declared.refusal.RingRefusal.{RingRefusal}
use Rattle.am_ring.specs.declared.refusal.RingRefusal.TheVariants.{Full, Small, WrongInstance}
use Rattle.am_ring.specs.Instances.{is_among, is_instance}
use Rattle.am_ring.specs.Changes.{join_refusal, leave_refusal}

-- neither of two tests refused
neither : (p q : Bool) (r s : RingRefusal) → cond p (Some r) (cond q (Some s) None) ≡ None → (p ≡ false) × (q ≡ false)
neither true q r s e = absurd cc
neither false true r s e = absurd cc
neither false false r s e = (refl, refl)

pub record MayJoin (i : ℕ) (ring : List ℕ) : Type 0 where
  pub is : IsTrue (is_instance i)
  pub new : is_among i ring ≡ false

pub may_join : (i : ℕ) (ring : List ℕ) → join_refusal i ring ≡ None → MayJoin i ring
unfolding join_refusal
may_join i ring e =
    let both = neither (leb 8 (length ring)) (not (is_instance i) || is_among i ring) Full WrongInstance e in
    let parts = or_parts (not (is_instance i)) (is_among i ring) both.1 in
    record { is = not-false _ parts.0; new = parts.1 }

pub record MayLeave (i : ℕ) (ring : List ℕ) : Type 0 where
  pub more : 3 < length ring
  pub among : is_among i ring ≡ true

pub may_leave : (i : ℕ) (ring : List ℕ) → leave_refusal i ring ≡ None → MayLeave i ring
unfolding leave_refusal
may_leave i ring e =
    let both = neither (leb (length ring) 3) (not (is_among i ring)) Small WrongInstance e in
    record { more = leb-false _ _ both.0; among = not-false _ both.1 }
