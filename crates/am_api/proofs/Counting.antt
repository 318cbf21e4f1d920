-- How posted label sets that aren't held are counted.
use Rattle.std.proofs.Common.{◌≡◌, ℕ, ◌+◌, ◌-◌, ◌≤◌, nat_lt, Bor, Option, None, Some, List, [], ◌∷◌, ◌++◌, Bool, true, false, not, cond, ◌||◌, length, map, if◌then◌else◌, refl, sym, ap, ◌∙◌, arith, append_assoc}
use Rattle.std.specs.Cmp.{eq_by_cmp_equiv}
use Rattle.std.specs.Option.{is_some, option_copied, option_map}
use Rattle.std.specs.Ordering.{eq_by_cmp, is_eq}
use Rattle.std.specs.Set.{distinct_count, is_member}
use Rattle.std.proofs.lemmas.Bool.Decides.{nat_tests}
use Rattle.std.proofs.lemmas.List.{length-map}
use Rattle.std.proofs.lemmas.List.Sums.{count_by-le-length, length-filter}
use Rattle.std.proofs.lemmas.Map.Made.{distinct_count-le}
use Rattle.am_labels.specs.declared.Label.{Label}
use Rattle.am_labels.specs.Labels.{labels_cmp, labels_total}
use Rattle.am_item.specs.declared.item.Alert.{Alert}
use Rattle.am_item.specs.declared.item.Item.{Item}
use Rattle.am_api.specs.Fresh.{has_alert, new_count, new_sets}

-- ---- label sets

-- the alert before the others comes to them
pub regrouped : (whole old front later : List Alert) (alert : Alert) → whole ≡ old ++ later → old ≡ front ++ alert ∷ [] → whole ≡ front ++ alert ∷ later
regrouped whole old front later alert before split = before ∙ ap (λ xs. xs ++ later) split ∙ append_assoc front (alert ∷ []) later

sets_more : (held : List Item) (later : List Alert) (alert : Alert) → has_alert held alert.labels ≡ false → new_sets held (alert ∷ later) ≡ alert.labels ∷ new_sets held later
sets_more held later alert fresh = rw fresh refl

or_cond : (b c : Bool) → cond b true c ≡ b || c
or_cond true c = refl
or_cond false c = refl

-- whether a label set is among those that are new
pub known_more : (held : List Item) (later : List Alert) (alert : Alert) (key : List Label) (old new : Bool) → has_alert held alert.labels ≡ false →
    old ≡ is_member (eq_by_cmp labels_cmp) (new_sets held later) key → new ≡ cond (is_eq (labels_cmp alert.labels key)) true old →
    new ≡ is_member (eq_by_cmp labels_cmp) (new_sets held (alert ∷ later)) key
known_more held later alert key old new fresh before now =
    now ∙ or_cond (is_eq (labels_cmp alert.labels key)) old ∙ ap (λ b. b || old) ((eq_by_cmp_equiv labels_total).symm alert.labels key)
    ∙ ap (λ c. is_eq (labels_cmp key alert.labels) || c) before ∙ ap (λ sets. is_member (eq_by_cmp labels_cmp) sets key) (sym (sets_more held later alert fresh))

counted : (sets : List (List Label)) (set : List Label) (b : Bool) → is_member (eq_by_cmp labels_cmp) sets set ≡ b →
    distinct_count (eq_by_cmp labels_cmp) sets + (if not b then 1 else 0) ≡ distinct_count (eq_by_cmp labels_cmp) (set ∷ sets)
counted sets set true is = rw is (omega arith)
counted sets set false is = rw is (omega arith)

-- and how many they are
pub count_more : (held : List Item) (later : List Alert) (alert : Alert) (old new : ℕ) (known added : Bool) → has_alert held alert.labels ≡ false →
    old ≡ new_count held later → known ≡ is_member (eq_by_cmp labels_cmp) (new_sets held later) alert.labels → added ≡ not known →
    new ≡ old + (if added then 1 else 0) → new ≡ new_count held (alert ∷ later)
count_more held later alert old new known added fresh before knows adds now =
    now ∙ ap (λ n. n + (if added then 1 else 0)) before ∙ ap (λ b. new_count held later + (if b then 1 else 0)) adds
    ∙ counted (new_sets held later) alert.labels known (sym knows) ∙ ap (distinct_count (eq_by_cmp labels_cmp)) (sym (sets_more held later alert fresh))

pub past_none : (limit len new whole : ℕ) → whole ≡ len + new → ¬ (len ≤ limit) → true ≡ nat_lt limit whole
past_none limit len new whole is past = grind (arith, nat_tests)

pub past_some : (limit len new whole room : ℕ) → whole ≡ len + new → len ≤ limit → room ≡ limit - len → nat_lt room new ≡ nat_lt limit whole
past_some limit len new whole room is within left = grind (arith, nat_tests)

-- no more label sets are new than alerts are posted
pub new_few : (held : List Item) (posted : List Alert) → new_count held posted ≤ length posted
new_few held posted =
    let sets = map (λ (alert : Alert). alert.labels) posted in
    let is_new : List Label → Bool = λ labels. not (has_alert held labels) in
    omega (arith, distinct_count-le (eq_by_cmp labels_cmp) (new_sets held posted), length-filter is_new sets, count_by-le-length is_new sets, length-map posted (λ (alert : Alert). alert.labels))

pub past_few : (limit len new whole room count : ℕ) → whole ≡ len + new → len ≤ limit → room ≡ limit - len → new ≤ count → count ≤ room → false ≡ nat_lt limit whole
past_few limit len new whole room count is within left few fits = grind (arith, nat_tests)

-- a borrowed value is there where what is made of it is
pub some_held : {S T : Type 0} (f : S → T) (o : Option (Bor S)) → is_some o ≡ is_some (option_map f (option_copied o))
some_held f None = refl
some_held f (Some b) = refl
