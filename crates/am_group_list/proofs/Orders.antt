-- The order of lists of groups tells exactly what is equal.
use Rattle.std.proofs.Common.{◌≡◌, Ordering, refl, sym, ap, ◌∙◌, ℕ, List}
use Rattle.std.specs.Cmp.{IsTotalOrder, nat_cmp_total, on_total, then_total}
use Rattle.std.specs.Cmp.Lexicographic.{nat_list_cmp_total, slice_cmp}
use Rattle.std.specs.Ordering.{is_eq, nat_cmp, ordering_then}
use Rattle.std.specs.declared.cmp.Ordering.TheVariants.{Less, Equal, Greater}
use Rattle.std.proofs.lemmas.Bool.{true≢false}
use Rattle.std.proofs.lemmas.Map.Lookups.{CmpEqualImpliesEq, exact_bytes, exact_unsigned}
use Rattle.am_labels.specs.declared.Label.{Label}
use Rattle.am_labels.specs.Labels.{labels_cmp, labels_total}
use Rattle.am_labels.proofs.InOrder.{labels_exact}
use Rattle.am_group_list.specs.declared.group.ListedGroup.{ListedGroup}
use Rattle.am_group_list.specs.Groups.{listed_cmp}

-- two comparisons, one after the other, are `Equal` only where both are
then_equal : (a b : Ordering) → ordering_then a b ≡ Equal → (a ≡ Equal) × (b ≡ Equal)
then_equal Less b h = absurd (true≢false (sym (ap is_eq h)))
then_equal Equal b h = (refl, h)
then_equal Greater b h = absurd (true≢false (sym (ap is_eq h)))

abbrev made : List ℕ → List Label → ℕ → ListedGroup
made receiver labels route = record { receiver = receiver; labels = labels; route = route }

-- groups compare `Equal` only where they are equal
pub groups_exact : CmpEqualImpliesEq listed_cmp
groups_exact g h e =
    let first = then_equal (slice_cmp nat_cmp g.receiver h.receiver) (ordering_then (labels_cmp g.labels h.labels) (nat_cmp g.route h.route)) e in
    let rest = then_equal (labels_cmp g.labels h.labels) (nat_cmp g.route h.route) first.1 in
    ap (λ receiver. made receiver g.labels g.route) (exact_bytes g.receiver h.receiver first.0)
    ∙ ap (λ labels. made h.receiver labels g.route) (labels_exact g.labels h.labels rest.0)
    ∙ ap (λ route. made h.receiver h.labels route) (exact_unsigned g.route h.route rest.1)

pub groups_total : IsTotalOrder listed_cmp
groups_total =
    then_total (on_total (λ (g : ListedGroup). g.receiver) nat_list_cmp_total)
    (then_total (on_total (λ (g : ListedGroup). g.labels) labels_total) (on_total (λ (g : ListedGroup). g.route) nat_cmp_total))
