-- Rows that are read in order of a column.
use Rattle.std.proofs.Common.{◌≡◌, ℕ, ◌+◌, ◌<◌, Bool, false, List, [], ◌∷◌, get_or, length, map, arith, refl, sym, ap, ap₂, subst, ◌∙◌}
use Rattle.std.specs.List.{All, AllByRecursion, IsDistinct}
use Rattle.std.specs.List.Sorted.{IsStrictlySortedBy}
use Rattle.std.specs.Ordering.{is_eq, is_lt, ordering_reverse, ordering_then}
use Rattle.std.specs.declared.cmp.Ordering.{Ordering}
use Rattle.std.specs.declared.cmp.Ordering.TheVariants.{Less, Equal, Greater}
use Rattle.std.proofs.lemmas.List.{get_or-map, length-map}
use Rattle.std.proofs.lemmas.List.Elements.{All-from_recursion}
use Rattle.std.proofs.lemmas.List.Sorted.{All-permutation}
use Rattle.std.proofs.lemmas.Cmp.{on_total}
use Rattle.std.proofs.lemmas.Map.Keys.{apart_from_distinct, sorted_from_all_adjacent}
use Rattle.sqlite_value.proofs.OrderLemmas.{value_cmp_total}
use Rattle.sqlite_value.specs.Order.{value_cmp}
use Rattle.sqlite.specs.Order.{Row, column}
use Rattle.sqlite.specs.Query.{IsAnswer, Output, Query, output}
use Rattle.sqlite.specs.Term.{Env, Term, col, eval, eval_all}
use Rattle.sqlite.specs.Tree.{Trees}
use Rattle.sqlite.specs.declared.types.Value.{Value}
use Rattle.sqlite.specs.Collation.TheVariants.{Binary}
use Rattle.am_store.proofs.Compiled.{over}
use Rattle.am_store.proofs.RowLists.{is_eq-reverse}

then_equal : (o : Ordering) → ordering_then o Equal ≡ o
then_equal Less = refl
then_equal Equal = refl
then_equal Greater = refl

-- neither greater nor tied, so less
less_is_left : (o : Ordering) → is_lt (ordering_reverse o) ≡ false → is_eq o ≡ false → o ≡ Less
less_is_left Less below apart = refl
less_is_left Equal below apart = absurd (let clash = apart in cc)
less_is_left Greater below apart = absurd (let clash = below in cc)

-- the rows agree in a column
abbrev pub same_at : ℕ → Row → Row → Bool
same_at at a b = is_eq (value_cmp (column a at) (column b at))

pub same_at-sym : (at : ℕ) (a b : Row) → same_at at a b ≡ same_at at b a
same_at-sym at a b = ap is_eq (value_cmp_total.antisymm (column a at) (column b at)) ∙ is_eq-reverse _

-- a query over one tree, whose rows are shown in order of a column
module _ (tree : ℕ) (terms project : List Term) (at : ℕ) (shows : (env : Env) → eval (col 1 at) env ≡ column (eval_all project env) at) where
  abbrev q : Query
  q = over tree terms project ((col 1 at, record { collation = Binary; descending = false }) ∷ [])

  -- what the rows are sorted by is shown
  abbrev ShowsKey : Output → Type 0
  ShowsKey o = column o.0 0 ≡ column o.1 at

  all_show : (envs : List Env) → AllByRecursion ShowsKey (map (output q) envs)
  all_show [] = tt
  all_show (env ∷ envs) = (shows env, all_show envs)

  pub rising_answer : (db : Trees) (params : Row) (rows : List Row) → IsAnswer q db params rows → IsDistinct (same_at at) rows → IsStrictlySortedBy (λ a b. value_cmp (column a at) (column b at)) rows
  rising_answer db params rows a apart =
      let kept : All ShowsKey a.kept = subst (All ShowsKey) (sym a.distinct) (All-from_recursion ShowsKey (map (output q) a.staged) (all_show a.staged)) in
      let seen : All ShowsKey a.ordered = All-permutation ShowsKey a.kept a.ordered a.same kept in
      let value : Output → Row = λ o. o.1 in
      let key : Row → Value = λ r. column r at in
      let first : Output = ([], []) in
      let long : length rows ≡ length a.ordered = ap length a.shown ∙ length-map a.ordered value in
      let shown : (k : ℕ) → k < length a.ordered → key (get_or rows k []) ≡ column (get_or a.ordered k first).0 0 =
      λ k low. ap (λ xs. key (get_or xs k [])) a.shown ∙ ap key (get_or-map value a.ordered k first [] low) ∙ sym (seen k first low) in
      sorted_from_all_adjacent (on_total key value_cmp_total) rows []
      (λ k low.
      let next : k + 1 < length a.ordered = omega (arith, low, long) in
      let this : k < length a.ordered = omega (arith, low, long) in
      let one = column (get_or a.ordered k first).0 0 in
      let two = column (get_or a.ordered (k + 1) first).0 0 in
      let up : is_lt (value_cmp two one) ≡ false = ap is_lt (sym (then_equal (value_cmp two one))) ∙ a.sorted k first (omega arith) next in
      let other : is_eq (value_cmp one two) ≡ false = ap₂ (λ u v. is_eq (value_cmp u v)) (sym (shown k this)) (sym (shown (k + 1) next)) ∙ apart_from_distinct (same_at at) rows k (k + 1) [] apart (omega arith) low in
      rw (shown k this, shown (k + 1) next) (less_is_left (value_cmp one two) (ap is_lt (sym (value_cmp_total.antisymm two one)) ∙ up) other))
