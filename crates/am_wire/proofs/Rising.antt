-- What holds of labels and label sets that were read one behind the other.
use Rattle.std.proofs.Common.{◌≡◌, ◌^◌, ◌<◌, Bool, true, false, ◌&&◌, Result, List, [], ◌∷◌, length, Option, Some, None, Ok, All, filter, refl, ap, ◌∙◌}
use Rattle.std.specs.Cmp.{IsTotalOrder}
use Rattle.std.specs.List.{list_all, AllByRecursion}
use Rattle.std.specs.List.Sorted.{IsStrictlySortedBy}
use Rattle.std.specs.declared.cmp.Ordering.{Ordering}
use Rattle.std.specs.declared.cmp.Ordering.TheVariants.{Less}
use Rattle.std.proofs.lemmas.List.Elements.{All-cons, All-nil}
use Rattle.am_text.specs.declared.failure.Failure.{Failure}
use Rattle.am_text.specs.declared.failure.Failure.TheVariants.{Refused, OutOfMemory}
use Rattle.am_text.specs.Outcome.{Fails, refused_as}
use Rattle.am_labels.specs.declared.Label.{Label}
use Rattle.am_labels.specs.declared.LabelRefusal.{LabelRefusal}
use Rattle.am_labels.specs.Labels.{are_label_names, has_value, labels_cmp, labels_total, name_cmp}
use Rattle.am_labels.specs.Sets.{IsAnnotations, IsLabelSet, annotations, label_set}
use Rattle.am_labels.proofs.InOrder.{name_total}
use Rattle.am_labels.proofs.Refusing.{annotations-rising, label_set_of}
use Rattle.am_wire.specs.Fields.{Chain, Rises}
use Rattle.am_wire.specs.LabelFields.{AreSetFields, HasTexts, IsAnnotationsField, IsLabelAfter, IsSetAfter, IsSetField}

module _ {A : Type 0} (cmp : A → A → Ordering) (order : IsTotalOrder cmp) where
  -- each is greater than the one before it
  abbrev pub RisesAfter : Option A → List A → Type 0
  RisesAfter = Chain (Rises cmp)

  -- what is below the first is below all
  above : (y x : A) (xs : List A) → cmp y x ≡ Less → RisesAfter (Some x) xs → AllByRecursion (λ z. cmp y z ≡ Less) xs
  above y x [] lt chain = tt
  above y x (z ∷ xs) lt chain =
      let next : cmp y z ≡ Less = order.trans y x z lt chain.0 in
      (next, above y z xs next chain.1)

  pub sorted_of_chain : (before : Option A) (xs : List A) → RisesAfter before xs → IsStrictlySortedBy cmp xs
  unfolding IsStrictlySortedBy
  sorted_of_chain before [] chain = tt
  sorted_of_chain before (x ∷ []) chain = (tt, tt)
  sorted_of_chain before (x ∷ z ∷ xs) chain =
      ((chain.1.0, above x z xs chain.1.0 chain.1.1), sorted_of_chain (Some x) (z ∷ xs) chain.1)

-- labels that were read

labels_rise : (e : Bool) (before : Option Label) (xs : List Label) → Chain (IsLabelAfter e) before xs → Chain (Rises name_cmp) before xs
labels_rise e before [] chain = tt
labels_rise e before (x ∷ xs) chain = (chain.0.rising, labels_rise e (Some x) xs chain.1)

labels_named : (e : Bool) (before : Option Label) (xs : List Label) → Chain (IsLabelAfter e) before xs → are_label_names xs ≡ true
labels_named e before [] chain = refl
labels_named e before (x ∷ xs) chain = rw (chain.0.named, labels_named e (Some x) xs chain.1) refl

labels_valued : (before : Option Label) (xs : List Label) → Chain (IsLabelAfter false) before xs → list_all has_value xs ≡ true
labels_valued before [] chain = refl
labels_valued before (x ∷ xs) chain = rw (chain.0.value, labels_valued (Some x) xs chain.1) refl

labels_texts : (e : Bool) (before : Option Label) (xs : List Label) → Chain (IsLabelAfter e) before xs → All HasTexts xs
labels_texts e before [] chain = All-nil HasTexts
labels_texts e before (x ∷ xs) chain = All-cons HasTexts x xs chain.0.texts (labels_texts e (Some x) xs chain.1)

pub set_of_chain : (labels : List Label) → Chain (IsLabelAfter false) None labels → length labels < 2 ^ 16 → IsSetField labels
set_of_chain labels chain few = record {
  set = record {
    names = labels_named false None labels chain;
    rising = sorted_of_chain name_cmp name_total None labels (labels_rise false None labels chain);
    values = labels_valued None labels chain;
  };
  texts = labels_texts false None labels chain;
  few = few;
}

pub annotations_of_chain : (labels : List Label) → Chain (IsLabelAfter true) None labels → length labels < 2 ^ 16 → IsAnnotationsField labels
annotations_of_chain labels chain few = record {
  set = record {
    names = labels_named true None labels chain;
    rising = sorted_of_chain name_cmp name_total None labels (labels_rise true None labels chain);
  };
  texts = labels_texts true None labels chain;
  few = few;
}

pub both_true : (a b : Bool) → (a && b) ≡ true → (a ≡ true) × (b ≡ true)
both_true true b e = (refl, e)
both_true false b e = absurd (cc)

-- what passes stays
filter_whole : (labels : List Label) → list_all has_value labels ≡ true → filter has_value labels ≡ labels
filter_whole [] all = refl
filter_whole (x ∷ xs) all =
    let both = both_true (has_value x) (list_all has_value xs) all in
    rw both.0 (ap (λ (ys : List Label). x ∷ ys) (filter_whole xs both.1))

-- they make the set that they are
pub made_set : (labels : List Label) → IsLabelSet labels → label_set labels ≡ Ok labels
made_set labels is =
    label_set_of labels labels (annotations-rising labels is.names is.rising) ∙ ap (λ (xs : List Label). Ok xs) (filter_whole labels is.values)

pub made_annotations : (labels : List Label) → IsAnnotations labels → annotations labels ≡ Ok labels
made_annotations labels is = annotations-rising labels is.names is.rising

pub same_set : (made : Result (List Label) LabelRefusal) (labels set : List Label) → made ≡ Ok labels → made ≡ Ok set → labels ≡ set
same_set made labels set is given = cc

-- so they are never refused
pub never_refused : {Y S : Type 0} (refusal : S) (failure : Failure LabelRefusal) (labels : List Label) (made : Result (List Label) LabelRefusal)
    (outcome : Result Y S) →
    made ≡ Ok labels → Fails failure made → Fails (refused_as refusal failure) outcome
never_refused refusal (Refused other) labels made outcome is fails = absurd (cc)
never_refused refusal OutOfMemory labels made outcome is fails = tt

-- label sets that were read

sets_rise : (before : Option (List Label)) (sets : List (List Label)) → Chain IsSetAfter before sets → Chain (Rises labels_cmp) before sets
sets_rise before [] chain = tt
sets_rise before (x ∷ xs) chain = (chain.0.rising, sets_rise (Some x) xs chain.1)

sets_are : (before : Option (List Label)) (sets : List (List Label)) → Chain IsSetAfter before sets → All IsSetField sets
sets_are before [] chain = All-nil IsSetField
sets_are before (x ∷ xs) chain = All-cons IsSetField x xs chain.0.set (sets_are (Some x) xs chain.1)

pub sets_of_chain : (sets : List (List Label)) → Chain IsSetAfter None sets → AreSetFields sets
sets_of_chain sets chain = record {
  each = sets_are None sets chain;
  rising = sorted_of_chain labels_cmp labels_total None sets (sets_rise None sets chain);
}
