-- The orders of moments, label sets and groups tell exactly what is equal.
use Rattle.std.proofs.Common.{◌≡◌, ◌≢◌, ◌⊎◌, ℕ, true, false, inl, inr, List, Ordering, refl, sym, ap, ◌∙◌}
use Rattle.std.specs.Cmp.{Equal-is, IsTotalOrder, nat_cmp_total, on_total, then_total}
use Rattle.std.specs.Ordering.{is_eq, nat_cmp, ordering_then}
use Rattle.std.specs.declared.cmp.Ordering.TheVariants.{Less, Equal, Greater}
use Rattle.std.proofs.lemmas.Bool.{cases_Bool, false≢true, true≢false}
use Rattle.std.proofs.lemmas.Cmp.{tied_itself}
use Rattle.std.proofs.lemmas.Map.Lookups.{CmpEqualImpliesEq, exact_unsigned}
use Rattle.am_labels.specs.declared.Label.{Label}
use Rattle.am_labels.specs.Labels.{labels_cmp, labels_total}
use Rattle.am_labels.proofs.InOrder.{labels_exact}
use Rattle.am_members.specs.declared.group.Group.{Group}
use Rattle.am_members.specs.Names.{group_cmp, is_group, is_moment, is_set}

-- two comparisons, one after the other, are `Equal` only where both are
then_equal : (a b : Ordering) → ordering_then a b ≡ Equal → (a ≡ Equal) × (b ≡ Equal)
then_equal Less b h = absurd (true≢false (sym (ap is_eq h)))
then_equal Equal b h = (refl, h)
then_equal Greater b h = absurd (true≢false (sym (ap is_eq h)))

-- groups compare `Equal` only where they are equal
pub groups_exact : CmpEqualImpliesEq group_cmp
groups_exact a b h =
    let both = then_equal (nat_cmp a.route b.route) (labels_cmp a.labels b.labels) h in
    ap (λ n. let g : Group = record { route = n; labels = a.labels } in g) (exact_unsigned a.route b.route both.0)
    ∙ ap (λ l. let g : Group = record { route = b.route; labels = l } in g) (labels_exact a.labels b.labels both.1)

pub groups_total : IsTotalOrder group_cmp
groups_total = then_total (on_total (λ (g : Group). g.route) nat_cmp_total) (on_total (λ (g : Group). g.labels) labels_total)

-- what a test of equality tells
tells : {K : Type 0} (R : K → K → Ordering) → IsTotalOrder R → CmpEqualImpliesEq R → (a b : K) → ((is_eq (R a b) ≡ true) × (a ≡ b)) ⊎ ((is_eq (R a b) ≡ false) × (a ≢ b))
tells R total exact a b = elim (cases_Bool (is_eq (R a b))) [
  | inl h ↦ inl (h, exact a b ((Equal-is (R a b)).0 h))
  | inr h ↦ inr (h, λ e. false≢true (sym h ∙ ap (λ c. is_eq (R a c)) (sym e) ∙ ap is_eq (tied_itself total a)))
]

pub moment_tells : (a b : ℕ) → ((is_moment a b ≡ true) × (a ≡ b)) ⊎ ((is_moment a b ≡ false) × (a ≢ b))
moment_tells a b = tells nat_cmp nat_cmp_total exact_unsigned a b

pub set_tells : (a b : List Label) → ((is_set a b ≡ true) × (a ≡ b)) ⊎ ((is_set a b ≡ false) × (a ≢ b))
set_tells a b = tells labels_cmp labels_total labels_exact a b

pub group_tells : (a b : Group) → ((is_group a b ≡ true) × (a ≡ b)) ⊎ ((is_group a b ≡ false) × (a ≢ b))
group_tells a b = tells group_cmp groups_total groups_exact a b

pub moment-refl : (a : ℕ) → is_moment a a ≡ true
moment-refl a = ap is_eq (tied_itself nat_cmp_total a)

pub set-refl : (a : List Label) → is_set a a ≡ true
set-refl a = ap is_eq (tied_itself labels_total a)

pub group-refl : (a : Group) → is_group a a ≡ true
group-refl a = ap is_eq (tied_itself groups_total a)

pub set-sym : (a b : List Label) → is_set a b ≡ is_set b a
set-sym a b = elim (set_tells a b) [
  | inl y ↦ rw y.1 refl
  | inr n ↦ elim (set_tells b a) [ inl y ↦ absurd (n.1 (sym y.1)) | inr m ↦ n.0 ∙ sym m.0 ]
]

pub group-sym : (a b : Group) → is_group a b ≡ is_group b a
group-sym a b = elim (group_tells a b) [
  | inl y ↦ rw y.1 refl
  | inr n ↦ elim (group_tells b a) [ inl y ↦ absurd (n.1 (sym y.1)) | inr m ↦ n.0 ∙ sym m.0 ]
]
