-- Some labels of a label set are a label set.
use Rattle.std.proofs.Common.{◌≡◌, Bool, true, inl, inr, List, [], ◌∷◌, Err, Ok, Result, refl, sym, ap, ◌∙◌}
use Rattle.std.specs.List.{filter, list_all}
use Rattle.std.specs.List.Sorted.{IsStrictlySortedBy}
use Rattle.std.proofs.lemmas.Bool.{and_from, and_parts, cases_Bool}
use Rattle.std.proofs.lemmas.List.Kept.{IsStrictlySortedBy-filter}
use Rattle.am_labels.specs.declared.Label.{Label}
use Rattle.am_labels.specs.Labels.{has_value, is_label_name, name_cmp}
use Rattle.am_text.specs.Outcome.{Fails}
use Rattle.am_text.specs.declared.failure.Failure.{Failure}
use Rattle.am_text.specs.declared.failure.Failure.TheVariants.{Refused}
use Rattle.am_labels.specs.declared.LabelRefusal.{LabelRefusal}
use Rattle.am_labels.specs.Sets.{IsLabelSet, label_set}
use Rattle.am_labels.proofs.Refusing.{annotations-rising, label_set_of}

-- what a filter leaves passes what all passed
all_filtered : {X : Type 0} (test keep : X → Bool) (xs : List X) → list_all test xs ≡ true → list_all test (filter keep xs) ≡ true
all_filtered test keep [] h = refl
all_filtered test keep (x ∷ xs) h =
    let parts = and_parts (test x) (list_all test xs) h in
    elim (cases_Bool (keep x)) [
      | inl y ↦ rw y (and_from (test x) (list_all test (filter keep xs)) parts.0 (all_filtered test keep xs parts.1))
      | inr n ↦ rw n (all_filtered test keep xs parts.1)
    ]

-- a test that all pass leaves all
all_kept : {X : Type 0} (test : X → Bool) (xs : List X) → list_all test xs ≡ true → filter test xs ≡ xs
all_kept test [] h = refl
all_kept test (x ∷ xs) h =
    let parts = and_parts (test x) (list_all test xs) h in
    rw parts.0 (ap (λ rest. x ∷ rest) (all_kept test xs parts.1))

-- some labels of a set are a set
pub set_filtered : (keep : Label → Bool) (labels : List Label) → IsLabelSet labels → IsLabelSet (filter keep labels)
set_filtered keep labels is = record {
  names = all_filtered (λ label. is_label_name label.name) keep labels is.names;
  rising = IsStrictlySortedBy-filter name_cmp keep labels is.rising;
  values = all_filtered has_value keep labels is.values;
}

-- no labels are a set
pub set_of_none : IsLabelSet []
unfolding IsStrictlySortedBy
set_of_none = record { names = refl; rising = tt; values = refl }

-- the set that the labels of a set make is that set
pub set_itself : (labels : List Label) → IsLabelSet labels → label_set labels ≡ Ok labels
set_itself labels is = label_set_of labels labels (annotations-rising labels is.names is.rising) ∙ ap Ok (all_kept has_value labels is.values)

-- so it is not refused
pub refused : (labels : List Label) (failure : Failure LabelRefusal) (refusal : LabelRefusal) → IsLabelSet labels → Fails failure (label_set labels) → failure ≡ Refused refusal → ⊥
refused labels failure refusal is fails said = ok_err (sym (set_itself labels is) ∙ rw said at fails)
  where
    ok_err : {r : LabelRefusal} → Ok labels ≡ Err r → ⊥
    ok_err h = cc

-- and what is made is that set
pub made : (labels set : List Label) → IsLabelSet labels → label_set labels ≡ Ok set → set ≡ labels
made labels set is given = sym (ok_same (label_set labels) (set_itself labels is) given)
  where
    ok_same : (r : Result (List Label) LabelRefusal) → r ≡ Ok labels → r ≡ Ok set → labels ≡ set
    ok_same r h k = cc
