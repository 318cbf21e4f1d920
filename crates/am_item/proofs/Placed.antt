-- Items by their places among all that is held.
use Rattle.std.proofs.Common.{◌≡◌, ℕ, zero, suc, ◌-◌, ◌+◌, ◌<◌, ◌≤◌, List, [], ◌∷◌, ◌++◌, length, Option, Some, None, get_or, refl, sym, ap, ◌∙◌, arith}
use Rattle.std.specs.Int.{from_bool}
use Rattle.std.specs.List.{HoldsAt, slice_range}
use Rattle.std.specs.Option.{is_some}
use Rattle.std.proofs.lemmas.List.{get_or-append_right, get_or_append_left, length-append, take_all}
use Rattle.std.proofs.lemmas.List.Edits.{between_more}
use Rattle.am_labels.specs.declared.Label.{Label}
use Rattle.am_item.specs.Held.{alert_item, configuration_item, configuration_items, entry_item, items_by, items_in, silence_item}
use Rattle.am_item.specs.declared.entry.EntryDetails.{EntryDetails}
use Rattle.am_item.specs.declared.entry.EntryKey.{EntryKey}
use Rattle.am_item.specs.declared.held.Held.TheInside.{Inside}
use Rattle.am_item.specs.declared.item.AlertDetails.{AlertDetails}
use Rattle.am_item.specs.declared.item.Item.{Item}
use Rattle.am_item.specs.declared.silence.SilenceDetails.{SilenceDetails}
use Rattle.am_item.specs.declared.stamp.Stamped.{Stamped}

pub length-items_by : {K V : Type 0} (item : K → V → Item) (es : List (K × V)) → length (items_by item es) ≡ length es
length-items_by item [] = refl
length-items_by item (e ∷ es) = ap suc (length-items_by item es)

-- the item of an entry stands at its place
pub item_there : {K V : Type 0} (item : K → V → Item) (es : List (K × V)) (i : ℕ) (e : K × V) → i < length es → e ≡ get_or es i e
    → HoldsAt (λ (y : Item). item e.0 e.1 ≡ y) (items_by item es) i
item_there item [] i e low at = absurd (omega arith)
item_there {K} {V} item (x ∷ es) zero e low at = λ d. ap (λ (z : K × V). item z.0 z.1) at
item_there item (x ∷ es) (suc i) e low at = item_there item es i e (omega arith) at

-- .. also where others follow
pub item_before : {K V : Type 0} (item : K → V → Item) (es : List (K × V)) (rest : List Item) (i : ℕ) (e : K × V) → i < length es → e ≡ get_or es i e
    → HoldsAt (λ (y : Item). item e.0 e.1 ≡ y) (items_by item es ++ rest) i
item_before item es rest i e low at = λ d.
    item_there item es i e low at d ∙ sym (get_or_append_left (items_by item es) rest d i (omega (arith, length-items_by item es)))

-- what stands behind entries has its place behind theirs
pub item_after : {K V : Type 0} (item : K → V → Item) (es : List (K × V)) (rest : List Item) (i : ℕ) (x : Item) → length es ≤ i
    → HoldsAt (λ (y : Item). x ≡ y) rest (i - length es) → HoldsAt (λ (y : Item). x ≡ y) (items_by item es ++ rest) i
item_after item es rest i x le at = λ d. at d ∙ sym (get_or-append_right (items_by item es) rest (length es) i d (length-items_by item es) le)

-- what is held beside the configuration
abbrev pub others : List (List ℕ × Stamped SilenceDetails) → List (List Label × Stamped AlertDetails) → List (EntryKey × Stamped EntryDetails) → List Item
others ss zs es = items_by silence_item ss ++ (items_by alert_item zs ++ items_by entry_item es)

pub length-others : (ss : List (List ℕ × Stamped SilenceDetails)) (zs : List (List Label × Stamped AlertDetails)) (es : List (EntryKey × Stamped EntryDetails))
    → length (others ss zs es) ≡ length ss + length zs + length es
length-others ss zs es =
    omega (
      arith,
      length-append (items_by silence_item ss) (items_by alert_item zs ++ items_by entry_item es),
      length-append (items_by alert_item zs) (items_by entry_item es),
      length-items_by silence_item ss,
      length-items_by alert_item zs,
      length-items_by entry_item es,
    )

-- where no configuration is held that is all ..
pub all_without : (h : Inside) (ss : List (List ℕ × Stamped SilenceDetails)) (zs : List (List Label × Stamped AlertDetails)) (es : List (EntryKey × Stamped EntryDetails)) (held : List Item)
    → ss ≡ h.silences → zs ≡ h.alerts → es ≡ h.sent → h.configuration ≡ None → items_in h ≡ held → others ss zs es ≡ held
unfolding items_in
all_without h ss zs es held s z e none view = sym (λ i. configuration_items (none i) ++ others (sym s i) (sym z i) (sym e i)) ∙ view

-- .. and else it stands first
pub all_behind : (h : Inside) (ss : List (List ℕ × Stamped SilenceDetails)) (zs : List (List Label × Stamped AlertDetails)) (es : List (EntryKey × Stamped EntryDetails))
    (kept : Stamped (Option (List ℕ))) (held : List Item)
    → ss ≡ h.silences → zs ≡ h.alerts → es ≡ h.sent → h.configuration ≡ Some kept → items_in h ≡ held → configuration_item kept ∷ others ss zs es ≡ held
unfolding items_in
all_behind h ss zs es kept held s z e some view = sym (λ i. configuration_items (some i) ++ others (sym s i) (sym z i) (sym e i)) ∙ view

pub item_first : (first : Item) (rest held : List Item) (i : ℕ) → first ∷ rest ≡ held → i ≡ 0 → HoldsAt (λ (y : Item). first ≡ y) held i
item_first first rest held i is none = λ d. (λ j. get_or (is j) (sym none j) d)

pub item_next : (first : Item) (rest held : List Item) (i : ℕ) (x : Item) → first ∷ rest ≡ held → 0 < i
    → HoldsAt (λ (y : Item). x ≡ y) rest (i - 1) → HoldsAt (λ (y : Item). x ≡ y) held i
item_next first rest held zero x is le at = absurd (omega arith)
item_next first rest held (suc i) x is le at =
    let back : suc i - 1 ≡ i = omega arith in
    λ d. at d ∙ (λ j. get_or rest (back j) d) ∙ (λ j. get_or (is j) (suc i) d)

-- how many are held
pub one_or_none : (o : Option (Stamped (Option (List ℕ)))) → from_bool (is_some o) ≡ length (configuration_items o)
one_or_none None = refl
one_or_none (Some held) = refl

pub length_whole : (h : Inside) → length (items_in h) ≡ length (configuration_items h.configuration) + length h.silences + length h.alerts + length h.sent
unfolding items_in
length_whole h = omega (arith, length-append (configuration_items h.configuration) (others h.silences h.alerts h.sent), length-others h.silences h.alerts h.sent)

-- one item more of a part
pub part_more : (xs ys zs : List Item) (from i : ℕ) (x : Item) → from ≤ i → i < length xs → HoldsAt (λ (y : Item). x ≡ y) xs i → ys ≡ slice_range xs from i → zs ≡ ys ++ x ∷ []
    → zs ≡ slice_range xs from (i + 1)
part_more xs ys zs from i x le low at so more = more ∙ (λ j. so j ++ at x j ∷ []) ∙ sym (between_more xs from i x le low)

pub whole_part : (xs : List Item) → slice_range xs 0 (length xs) ≡ xs
whole_part xs = take_all (length xs - 0) xs (omega arith)
