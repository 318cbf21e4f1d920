-- The order of lists of bytes ties exactly the equal ones.
use Rattle.std.proofs.Common.{◌≡◌, List, ℕ, sym, ◌∙◌, ap, Equal}
use Rattle.std.specs.Prelude.{◌↔◌}
use Rattle.std.specs.declared.cmp.Ordering.{Ordering}
use Rattle.std.specs.Ordering.{nat_cmp}
use Rattle.std.specs.Cmp.Lexicographic.{slice_cmp}
use Rattle.std.proofs.lemmas.Cmp.{tied_itself, nat_list_cmp_total}
use Rattle.std.proofs.lemmas.Map.Lookups.{exact_bytes}

pub tie : (xs ys left right : List ℕ) (o : Ordering) → left ≡ xs → right ≡ ys → o ≡ slice_cmp nat_cmp left right → (o ≡ Equal) ↔ (xs ≡ ys)
tie xs ys left right o a b is =
    (λ e. sym a ∙ exact_bytes left right (sym is ∙ e) ∙ b, λ e. is ∙ ap (slice_cmp nat_cmp left) (b ∙ sym e ∙ sym a) ∙ tied_itself nat_list_cmp_total left)
