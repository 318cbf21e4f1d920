-- A `BTreeMap` whose keys are tenant names, as a table that is looked up by `same`.
use Rattle.std.proofs.Common.{◌≡◌, ℕ, List, [], ◌∷◌, Option, Some, refl, sym, ap, ◌∙◌, if◌then◌else◌}
use Rattle.std.specs.Ordering.{nat_cmp}
use Rattle.std.specs.Cmp.Lexicographic.{slice_cmp}
use Rattle.std.specs.BTreeMap as tree
use Rattle.std.specs.Map.{lookup}
use Rattle.am_tenant.specs.Names.{same}
use Rattle.am_tenant.proofs.Same.{is_eq-name_cmp, same-sym}

module _ {X : Type 0} where
  -- a look-up in the order of names is one by `same`
  pub lookup-by_name : (tenant : List ℕ) (entries : List (List ℕ × X)) → lookup (tree.is_at (slice_cmp nat_cmp tenant)) entries ≡ lookup (λ name. same tenant name) entries
  lookup-by_name tenant [] = refl
  lookup-by_name tenant (entry ∷ entries) = rw (is_eq-name_cmp tenant entry.0) (ap (λ (rest : Option X). if same tenant entry.0 then Some entry.1 else rest) (lookup-by_name tenant entries))

  -- after a change of one tenant's entry: what every tenant has
  pub lookup-updates : (m n : tree.BTreeMap (List ℕ) X) (tenant : List ℕ) (value : Option X) → tree.Updates (slice_cmp nat_cmp) m n tenant value → (t : List ℕ) → lookup (λ name. same t name) n.entries ≡ (if same t tenant then value else lookup (λ name. same t name) m.entries)
  lookup-updates m n tenant value h t = sym (lookup-by_name t n.entries) ∙ h.0 t ∙ rw (is_eq-name_cmp tenant t, same-sym tenant t, lookup-by_name t m.entries) refl
