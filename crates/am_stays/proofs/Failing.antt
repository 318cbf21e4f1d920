-- How a claim fails: the instances that break it.
use Rattle.std.proofs.Common.{◌≡◌, ℕ, suc, ◌≤◌, true, false, inl, inr, refl, subst, arith}
use Rattle.std.specs.Prelude.{nat_lt, ◌==◌}
use Rattle.am_stays.specs.Places.{Place}
use Rattle.am_stays.specs.Shadow.{Shadow}
use Rattle.am_stays.specs.Happenings.{era_now, is_replica, has_list}
use Rattle.am_stays.specs.Claims.{serves, PairsHold, ListsAreHeld, DecisionsSee, EarlierEpochsEnd, AreAdjacent, OthersHoldNothing}
use Rattle.am_stays.proofs.Tables.{apart, eq_true, lt_is}

differs : (j k : ℕ) → (j == k) ≡ false → j ≡ k → ⊥
differs j k n e = apart (j == k) (eq_true j k e) n

none : (x n : ℕ) → nat_lt 0 x ≡ true → n ≡ 0 → x ≤ n → ⊥
none x n l e h = absurd (omega (arith, lt_is 0 x l, e, h))

-- two settled replicas of an era lack it
pub pairs-fail : (s : Shadow) (x j k : ℕ) → s.acknowledged x ≡ true → s.outlived ≡ 0 → nat_lt 0 x ≡ true → serves s j ≡ true → serves s k ≡ true → (j == k) ≡ false → s.era_of (s.known j) ≡ s.era_of (s.known k) → s.held j ≡ 0 → s.held k ≡ 0 → PairsHold s → ⊥
pairs-fail s x j k a o l sj sk n e hj hk claim =
    elim (claim x j k a (omega (arith, lt_is 0 x l, o)) sj sk (differs j k n) e) [
      | inl h ↦ none x (s.held j) l hj h
      | inr h ↦ none x (s.held k) l hk h
    ]

-- two answers lack it
pub sees-fail : (s : Shadow) (n x j k : ℕ) → s.undecided n ≡ true → s.before n x ≡ true → s.outlived ≡ 0 → nat_lt 0 x ≡ true → s.answer n j 0 ≡ true → s.answer n k 0 ≡ true → (j == k) ≡ false → DecisionsSee s → ⊥
sees-fail s n x j k u b o l aj ak d claim = absurd (omega (arith, lt_is 0 x l, claim n x j 0 k 0 u b (omega (arith, lt_is 0 x l, o)) aj ak (differs j k d)))

-- who took the list lacks what stands in it
pub lists-fail : (s : Shadow) (x r j : ℕ) → has_list s r j ≡ true → s.list j (s.known r) r (s.incarnation r) ≡ x → nat_lt 0 x ≡ true → s.held r ≡ 0 → s.outlived ≡ 0 → ListsAreHeld s → ⊥
lists-fail s x r j t e l h o claim =
    elim (claim r j t) [
      | inl a ↦ none x (s.held r) l h (subst (λ k. k ≤ s.held r) e a)
      | inr a ↦ none x s.outlived l o (subst (λ k. k ≤ s.outlived) e a)
    ]

-- two replicas still go by the epoch before
pub ends-fail : (s : Shadow) (n j v k u l m : ℕ) → s.answer n j v ≡ true → s.answer n k u ≡ true → (j == k) ≡ false → is_replica s l ≡ true → is_replica s m ≡ true → s.known l ≡ s.known m → nat_lt (s.known l) (s.epoch n) ≡ true → (l == m) ≡ false → EarlierEpochsEnd s → ⊥
ends-fail s n j v k u l m aj ak d rl rm e less o claim = differs l m o (claim n n j v k u l m aj ak refl (differs j k d) rl rm e (lt_is (s.known l) (s.epoch n) less))

-- one that kept its place is two eras behind
pub eras-fail : (s : Shadow) (g : ℕ) (p : Place) → nat_lt g (era_now s) ≡ true → s.era_of (s.known (s.member g p)) ≡ g → (suc g == era_now s) ≡ false → s.member (suc g) p ≡ s.member g p → AreAdjacent s → ⊥
eras-fail s g p less e n kept claim =
    elim (claim g p (lt_is g (era_now s) less) e) [
      | inl a ↦ differs (suc g) (era_now s) n a
      | inr a ↦ a kept
    ]

-- one that is none of the three holds it
pub others-fail : (s : Shadow) (j x : ℕ) → s.up j ≡ true → is_replica s j ≡ false → s.held j ≡ x → nat_lt 0 x ≡ true → OthersHoldNothing s → ⊥
others-fail s j x u n e l claim = absurd (omega (arith, lt_is 0 x l, e, (claim j u n).0))
