-- Whether an item is held, by the kinds of items.
use Rattle.std.proofs.Common.{◌≡◌, ℕ, suc, ◌+◌, ◌<◌, ◌≤◌, ◌==◌, nat_lt, true, false, not, List, [], ◌∷◌, ◌++◌, length, Option, Some, None, is_some, arith, ap, length-append, refl, sym, ◌∙◌}
use Rattle.std.specs.Borrow.{Bor}
use Rattle.std.specs.Option.{option_copied}
use Rattle.std.proofs.lemmas.Bool.{false≢true}
use Rattle.std.proofs.lemmas.Bool.Decides.{nat_tests}
use Rattle.am_item.specs.Held.{configuration_items, items_by}
use Rattle.am_item.specs.declared.item.Item.{Item}
use Rattle.am_item.specs.declared.stamp.Stamped.{Stamped}

as_many : {K V : Type 0} (item_of : K → V → Item) (entries : List (K × V)) → length (items_by item_of entries) ≡ length entries
as_many item_of [] = refl
as_many item_of ((key, value) ∷ entries) = ap suc (as_many item_of entries)

pub no_configuration : (found : Option (Bor (Stamped (Option (List ℕ))))) → is_some found ≡ false → configuration_items (option_copied found) ≡ []
no_configuration None none = refl
no_configuration (Some held) none = absurd (false≢true (sym none))

-- as many are held as there are of each kind
module _ (held configurations silences alerts entries : List Item) (whole : held ≡ configurations ++ (silences ++ (alerts ++ entries))) where
  by_kind : length held ≡ length configurations + (length silences + (length alerts + length entries))
  by_kind =
      ap length whole ∙ length-append configurations (silences ++ (alerts ++ entries))
      ∙ ap (λ n. length configurations + n)
      (length-append silences (alerts ++ entries) ∙ ap (λ n. length silences + n) (length-append alerts entries))

  -- one that is a silence
  pub holds_second : {K V : Type 0} (item_of : K → V → Item) (those : List (K × V)) → items_by item_of those ≡ silences → 0 < length those → true ≡ not (length held == 0)
  holds_second item_of those are some =
      some_held (length held) (length configurations) (length silences) (length alerts + length entries) (length those) by_kind (sym (ap length are) ∙ as_many item_of those) some
    where
      some_held : (n a b c m : ℕ) → n ≡ a + (b + c) → b ≡ m → 0 < m → true ≡ not (n == 0)
      some_held n a b c m sum are some = grind (arith, nat_tests)

  -- .. an alert
  pub holds_third : {K V : Type 0} (item_of : K → V → Item) (those : List (K × V)) → items_by item_of those ≡ alerts → 0 < length those → true ≡ not (length held == 0)
  holds_third item_of those are some =
      some_held (length held) (length configurations) (length silences) (length alerts) (length entries) (length those) by_kind (sym (ap length are) ∙ as_many item_of those) some
    where
      some_held : (n a b c d m : ℕ) → n ≡ a + (b + (c + d)) → c ≡ m → 0 < m → true ≡ not (n == 0)
      some_held n a b c d m sum are some = grind (arith, nat_tests)

  -- where there are none of these, a sent entry is one
  pub holds_last : {K V L W M X : Type 0} (silence_of : K → V → Item) (alert_of : L → W → Item) (entry_of : M → X → Item)
      (silenced : List (K × V)) (alerted : List (L × W)) (sent : List (M × X)) → configurations ≡ []
      → items_by silence_of silenced ≡ silences → items_by alert_of alerted ≡ alerts → items_by entry_of sent ≡ entries
      → length silenced ≤ 0 → length alerted ≤ 0 → nat_lt 0 (length sent) ≡ not (length held == 0)
  holds_last silence_of alert_of entry_of silenced alerted sent none silences_are alerts_are entries_are no_silence no_alert =
      last_held (length held) (length configurations) (length silences) (length alerts) (length entries) (length silenced) (length alerted) (length sent) by_kind
      (ap length none) (sym (ap length silences_are) ∙ as_many silence_of silenced) (sym (ap length alerts_are) ∙ as_many alert_of alerted)
      (sym (ap length entries_are) ∙ as_many entry_of sent) no_silence no_alert
    where
      last_held : (n a b c d s t u : ℕ) → n ≡ a + (b + (c + d)) → a ≡ 0 → b ≡ s → c ≡ t → d ≡ u → s ≤ 0 → t ≤ 0 → nat_lt 0 u ≡ not (n == 0)
      last_held n a b c d s t u sum none are_s are_t are_u no_s no_t = grind (arith, nat_tests)
