-- Who took a list, or of its pieces that with the key, holds what stood in it, or it is outlived.
use Rattle.std.proofs.Common.{◌≡◌, ℕ, ◌≤◌, max, Bool, true, false, not, ◌&&◌, if◌then◌else◌, ◌⊎◌, inl, inr, subst, sym, ap, arith, ◌∙◌}
use Rattle.std.specs.Prelude.{◌==◌}
use Rattle.am_stays.specs.Shadow.{Shadow, is_list, after_cut, after_piece, after_retire}
use Rattle.am_stays.proofs.Tables.{and_left, and_right, or_cases, not_true, apart, decide, eq_is, eq_refl, eq_true, if_false}
use Rattle.am_stays.proofs.Bounds.{Bounded, list_parts}

abbrev pub Merged : Shadow → Type 0
Merged s =
    (r j : ℕ) → s.taken r j (s.piece j (s.known r) r (s.incarnation r)) ≡ true → (s.list j (s.known r) r (s.incarnation r) ≤ s.held r) ⊎ (s.list j (s.known r) r (s.incarnation r) ≤ s.outlived)

-- nobody holds less
pub merged-more : (s : Shadow) (held : ℕ → ℕ) → ((k : ℕ) → s.held k ≤ held k) → Merged s → Merged (record s { held = held })
merged-more s held more h = λ r j y. elim (h r j y) [ inl a ↦ inl (omega (arith, a, more r)) | inr a ↦ inr a ]

pub merged-retire : (s : Shadow) (j : ℕ) → Merged s → Merged (after_retire s j)
merged-retire s j h = λ r l y.
    elim (h r l y) [
      | inr a ↦ inr (omega (arith, a))
      | inl a ↦
          elim (decide (r == j)) [
            | inl c ↦ inr (omega (arith, a, ap s.held (eq_is r j c)))
            | inr c ↦ inl (rw c a)
          ]
    ]

pub merged-cut : (s : Shadow) (j r pieces piece : ℕ) → s.cut j (s.known j) r (s.incarnation r) ≡ false → Bounded s → Merged s → Merged (after_cut s j r pieces piece)
merged-cut s j r pieces piece new b h = λ k l y.
    let c = before_ k l (b.taken k l ((after_cut s j r pieces piece).piece l (s.known k) k (s.incarnation k)) y) in
    rw c (h k l (subst (λ o. s.taken k l o ≡ true) (if_false (is_list s j r l (s.known k) k (s.incarnation k)) piece (s.piece l (s.known k) k (s.incarnation k)) c) y))
  where
    before_ : (k l : ℕ) → s.cut l (s.known k) k (s.incarnation k) ≡ true → is_list s j r l (s.known k) k (s.incarnation k) ≡ false
    before_ k l z =
        elim (decide (is_list s j r l (s.known k) k (s.incarnation k))) [
          | inr c ↦ c
          | inl c ↦
              let x = list_parts s j r l (s.known k) k (s.incarnation k) c in
              apart (s.cut j (s.known j) r (s.incarnation r)) (subst (λ a. s.cut j (s.known j) a (s.incarnation a) ≡ true) x.2 (subst (λ a. s.cut j a k (s.incarnation k) ≡ true) x.1 (subst (λ a. s.cut a (s.known k) k (s.incarnation k) ≡ true) x.0 z))) new
        ]

pub merged-piece : (s : Shadow) (j r p : ℕ) → Merged s → Merged (after_piece s j r p)
merged-piece s j r p h = λ k l y.
    elim (or_cases ((k == r) && ((l == j) && (s.piece l (s.known k) k (s.incarnation k) == p))) (s.taken k l (s.piece l (s.known k) k (s.incarnation k))) y) [
      | inr c ↦ elim (h k l c) [ inl a ↦ inl (omega (arith, a, more k)) | inr a ↦ inr a ]
      | inl c ↦
          let e : k ≡ r = eq_is k r (and_left (k == r) ((l == j) && (s.piece l (s.known k) k (s.incarnation k) == p)) c) in
          let d = and_right (k == r) ((l == j) && (s.piece l (s.known k) k (s.incarnation k) == p)) c in
          let f : l ≡ j = eq_is l j (and_left (l == j) (s.piece l (s.known k) k (s.incarnation k) == p) d) in
          let g : s.piece l (s.known k) k (s.incarnation k) ≡ p = eq_is (s.piece l (s.known k) k (s.incarnation k)) p (and_right (l == j) (s.piece l (s.known k) k (s.incarnation k) == p) d) in
          inl (subst (λ a. s.list l (s.known a) a (s.incarnation a) ≤ (after_piece s j r p).held a) (sym e)
          (subst (λ a. s.list a (s.known r) r (s.incarnation r) ≤ (after_piece s j r p).held r) (sym f)
          (has (sym (subst (λ a. s.piece l (s.known a) a (s.incarnation a) ≡ p) e g) ∙ ap (λ a. s.piece a (s.known r) r (s.incarnation r)) f))))
    ]
  where
    test : ℕ → Bool
    test k = (p == s.piece j (s.known r) r (s.incarnation r)) && (k == r)

    more : (k : ℕ) → s.held k ≤ (if (p == s.piece j (s.known r) r (s.incarnation r)) && (k == r) then max (s.held r) (s.list j (s.known r) r (s.incarnation r)) else s.held k)
    more k =
        elim (decide ((p == s.piece j (s.known r) r (s.incarnation r)) && (k == r))) [
          | inl c ↦ rw c (omega (arith, ap s.held (eq_is k r (and_right (p == s.piece j (s.known r) r (s.incarnation r)) (k == r) c))))
          | inr c ↦ rw c (omega arith)
        ]

    has : p ≡ s.piece j (s.known r) r (s.incarnation r) → s.list j (s.known r) r (s.incarnation r) ≤ (if (p == s.piece j (s.known r) r (s.incarnation r)) && (r == r) then max (s.held r) (s.list j (s.known r) r (s.incarnation r)) else s.held r)
    has e = rw (eq_true p (s.piece j (s.known r) r (s.incarnation r)) e, eq_refl r) (omega arith)

-- one forgets what it took, whatever becomes of it
pub merged-forget : (s : Shadow) (i : ℕ) (known incarnation held : ℕ → ℕ) → ((k : ℕ) → (k == i) ≡ false → known k ≡ s.known k) → ((k : ℕ) → (k == i) ≡ false → incarnation k ≡ s.incarnation k) → ((k : ℕ) → (k == i) ≡ false → held k ≡ s.held k) → Merged s → Merged (record s { known = known; incarnation = incarnation; held = held; taken = λ k l o. not (k == i) && s.taken k l o })
merged-forget s i known incarnation held K I H h = λ k l y.
    let n : (k == i) ≡ false = not_true (k == i) (and_left (not (k == i)) (s.taken k l (s.piece l (known k) k (incarnation k))) y) in
    let z : s.taken k l (s.piece l (known k) k (incarnation k)) ≡ true = and_right (not (k == i)) (s.taken k l (s.piece l (known k) k (incarnation k))) y in
    let z2 : s.taken k l (s.piece l (s.known k) k (s.incarnation k)) ≡ true = subst (λ a. s.taken k l (s.piece l (s.known k) k a) ≡ true) (I k n) (subst (λ a. s.taken k l (s.piece l a k (incarnation k)) ≡ true) (K k n) z) in
    subst (λ a. (s.list l a k (incarnation k) ≤ held k) ⊎ (s.list l a k (incarnation k) ≤ s.outlived)) (sym (K k n))
    (subst (λ a. (s.list l (s.known k) k a ≤ held k) ⊎ (s.list l (s.known k) k a ≤ s.outlived)) (sym (I k n))
    (subst (λ a. (s.list l (s.known k) k (s.incarnation k) ≤ a) ⊎ (s.list l (s.known k) k (s.incarnation k) ≤ s.outlived)) (sym (H k n)) (h k l z2)))
