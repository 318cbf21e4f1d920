-- Silences that are removed one after the other.
use Rattle.std.proofs.Common.{◌≡◌, ℕ, List, [], ◌∷◌, ◌++◌, refl, sym, ap, subst, ◌∙◌}
use Rattle.sqlite.specs.Effect.{Database}
use Rattle.am_item.specs.Key.{SilenceKey}
use Rattle.am_rows.proofs.Dropping.{first_gone, none_gone}
use Rattle.am_rows.specs.Rows.{rows_of, without_silences}
use Rattle.am_store.specs.Items.{kept_in}
use Rattle.am_store.specs.Rows.{IsStore}
use Rattle.am_store.specs.Steps.{Removes, RemovesEach}
use Rattle.am_store.proofs.Shelves.{removes}

abbrev Silences : Type 0
Silences = List (List ℕ × List ℕ)

-- a store is one afterwards
pub each_store : (ss : Silences) (old new : Database) → IsStore old → RemovesEach ss old new → IsStore new
each_store [] old new store is = subst IsStore (sym is) store
each_store (s ∷ ss) old new store (mid, one, rest) = each_store ss mid new one.store rest

-- one more
pub each_then : (ss : Silences) (s : List ℕ × List ℕ) (old mid new : Database) → RemovesEach ss old mid → Removes s.0 (SilenceKey s.1) mid new → RemovesEach (ss ++ s ∷ []) old new
each_then [] s old mid new is one = (new, subst (λ db. Removes s.0 (SilenceKey s.1) db new) is one, refl)
each_then (r ∷ ss) s old mid new (next, first, rest) one = (next, first, each_then ss s next mid new rest one)

-- what becomes of the rows of every tenant
pub removes_each : (ss : Silences) (old new : Database) → IsStore old → RemovesEach ss old new → (t : List ℕ) → rows_of t (kept_in new) ≡ without_silences ss t (rows_of t (kept_in old))
removes_each [] old new store is t = ap (λ db. rows_of t (kept_in db)) is ∙ sym (none_gone t (rows_of t (kept_in old)))
removes_each (s ∷ ss) old new store (mid, one, rest) t =
    removes_each ss mid new one.store rest t
    ∙ ap (without_silences ss t) (removes s.0 (SilenceKey s.1) old mid store one t)
    ∙ sym (first_gone s ss t (rows_of t (kept_in old)))
