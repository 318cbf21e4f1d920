-- Rowids that rise from row to row.
use Rattle.std.proofs.Common.{◌≡◌, inl, inr, ℕ, ◌+◌, ◌-◌, ◌<◌, ◌≤◌, ℤ, List, [], length, get_or, arith, sym, ap, ◌∙◌}
use Rattle.std.specs.declared.cmp.Ordering.TheVariants.{Less}
use Rattle.std.specs.Ordering.{int_cmp}
use Rattle.std.proofs.lemmas.Bool.{cases_lt}
use Rattle.std.proofs.lemmas.List.{get_or_default}
use Rattle.std.proofs.lemmas.Cmp.{on_total}
use Rattle.std.proofs.lemmas.Map.Keys.{Less-from_sorted, sorted_from_all_adjacent}
use Rattle.sqlite_value.proofs.OrderLemmas.{value_cmp-Int, value_cmp_total}
use Rattle.sqlite_value.specs.Order.{value_cmp}
use Rattle.sqlite.specs.declared.types.Value.TheVariants.{Int}
use Rattle.sqlite.specs.Order.{Row}
use Rattle.sqlite.specs.Tree.{rowid}
use Rattle.am_store.specs.Opening.{AreRising}

-- before this place each row but the first has a greater rowid than the one before it
pub record RiseTo (rows : List Row) (end : ℕ) : Type 0 where
  pub rise : (k : ℕ) (d : Row) → k + 1 < end → value_cmp (rowid (get_or rows k d)) (rowid (get_or rows (k + 1) d)) ≡ Less

pub rise_none : (rows : List Row) → RiseTo rows 1
rise_none rows = record { rise = λ k d low. absurd (omega (arith, low)) }

pub rise_more : (rows : List Row) (at : ℕ) (m n : ℤ) (d f : Row) → 1 ≤ at → RiseTo rows at → rowid (get_or rows (at - 1) d) ≡ Int m → rowid (get_or rows at f) ≡ Int n → at < length rows
    → int_cmp m n ≡ Less → RiseTo rows (at + 1)
rise_more rows at m n d f first before one two within below = record {
  rise = λ k e low. elim (cases_lt (k + 1) at) [
    | inl earlier ↦ before.rise k e earlier
    | inr last ↦
        let is : k + 1 ≡ at = omega (arith, low, last) in
        let back : at - 1 ≡ k = omega (arith, low, last) in
        let here : rowid (get_or rows k e) ≡ Int m = ap rowid (get_or_default rows k e d (omega (arith, low, within))) ∙ ap (λ j. rowid (get_or rows j d)) (sym back) ∙ one in
        let next : rowid (get_or rows (k + 1) e) ≡ Int n = ap (λ j. rowid (get_or rows j e)) is ∙ ap rowid (get_or_default rows at e f within) ∙ two in
        rw (here, next) (value_cmp-Int m n ∙ below)
  ];
}

pub rise_all : (rows : List Row) (end : ℕ) → length rows ≤ end → RiseTo rows end → AreRising rows
rise_all rows end whole rising = sorted_from_all_adjacent (on_total rowid value_cmp_total) rows [] (λ k low. rising.rise k [] (omega (arith, low, whole)))

-- of rows whose rowids rise one has a greater rowid than the one before it
pub rises_at : (rows : List Row) (at : ℕ) (m n : ℤ) (d f : Row) → 1 ≤ at → at < length rows → AreRising rows → rowid (get_or rows (at - 1) d) ≡ Int m → rowid (get_or rows at f) ≡ Int n → Less ≡ int_cmp m n
rises_at rows at m n d f first within rising one two =
    let up = Less-from_sorted (λ a b. value_cmp (rowid a) (rowid b)) rows (at - 1) at d rising (omega (arith, first)) within in
    let here : rowid (get_or rows at d) ≡ Int n = ap rowid (get_or_default rows at d f within) ∙ two in
    sym (rw (one, here) at up) ∙ value_cmp-Int m n
