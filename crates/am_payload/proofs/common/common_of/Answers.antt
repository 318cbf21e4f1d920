use Rattle.std.proofs.Common.{Bor, ◌≡◌, ◌∙◌, ◌∷◌, ◌+◌, List, [], ap, drop, map, subst, sym}
use Rattle.std.specs.List.Sorted.{IsStrictlySortedBy}
use Rattle.std.proofs.lemmas.List.{drop_all, drop_more, nil_from_length}
use Rattle.std.proofs.lemmas.List.Kept.{IsStrictlySortedBy-filter}
use Rattle.am_labels.specs.declared.Label.{Label}
use Rattle.am_labels.specs.Labels.{name_cmp}
use Rattle.am_payload.specs.declared.webhook.ToldAlert.{ToldAlert}
use Rattle.am_payload.specs.Told.{told_alerts}
use Rattle.am_payload.specs.Webhook.{common_annotations, common_labels, is_among}
use Rattle.am_payload.proofs.Among.{kept_by, kept-by-more, kept-by-none, rising_none}
use Rattle.am_payload.proofs.common.common_of.Goals as goal

-- labels as they are seen
abbrev seen : List (Bor Label) → List Label
seen labels = map (λ label. label.now) labels

-- the labels and the annotations of alerts
abbrev labels_of : List ToldAlert → List (List Label)
labels_of alerts = map (λ told. told.0.value.labels) (told_alerts alerts)

abbrev annotations_of : List ToldAlert → List (List Label)
annotations_of alerts = map (λ told. told.0.value.annotations) (told_alerts alerts)

pub returns-in_default : goal.returns-in_default
returns-in_default c =
    let none : c.args.alerts.now ≡ [] = nil_from_length c.args.alerts.now c.in_default.ensures.cases in
    record {
      labels = ap seen c.new.ensures.items ∙ sym (ap (λ alerts. common_labels (told_alerts alerts)) none);
      annotations = ap seen c.new-in_default.ensures.items ∙ sym (ap (λ alerts. common_annotations (told_alerts alerts)) none);
      labels_rise = rw c.new.ensures.items rising_none;
      annotations_rise = rw c.new-in_default.ensures.items rising_none;
    }

pub loop-told-preserved : goal.loop-told-preserved
loop-told-preserved c =
    let told = c.told-item.result in
    let rest = drop (c.loop-told.told-index + 1) c.in-Some.others.now in
    let next = drop_more c.in-Some.others.now c.loop-told.told-index told c.loop-told-test.true ∙ ap (λ (t : ToldAlert). t ∷ rest) (sym c.told-item.is) in
    let labels = seen c.loop-told.labels.items in
    let annotations = seen c.loop-told.annotations.items in
    let its_labels = told.alert.labels.now in
    let its_annotations = told.alert.details.now.value.annotations in
    let keeps_labels = rw c.labels-in-loop-told.ensures.labels at c.retain_among.ensures in
    let keeps_annotations = rw c.labels-in-loop-told-2.ensures.labels at c.retain_among-in-loop-told.ensures in (
      ap (kept_by (labels_of rest)) keeps_labels
          ∙ kept-by-more its_labels (labels_of rest) labels
          ∙ ap (λ alerts. kept_by (labels_of alerts) labels) (sym next)
          ∙ c.loop-told.invariant.0,
      (
        ap (kept_by (annotations_of rest)) keeps_annotations
            ∙ kept-by-more its_annotations (annotations_of rest) annotations
            ∙ ap (λ alerts. kept_by (annotations_of alerts) annotations) (sym next)
            ∙ c.loop-told.invariant.1.0,
        (
          subst (IsStrictlySortedBy name_cmp) (sym keeps_labels) (IsStrictlySortedBy-filter name_cmp (is_among its_labels) labels c.loop-told.invariant.1.1.0),
          subst (IsStrictlySortedBy name_cmp) (sym keeps_annotations) (IsStrictlySortedBy-filter name_cmp (is_among its_annotations) annotations c.loop-told.invariant.1.1.1),
        ),
      ),
    )

pub returns : goal.returns
returns c =
    let labels = seen c.loop-told.labels.items in
    let annotations = seen c.loop-told.annotations.items in
    let none = drop_all c.loop-told.told-index c.in-Some.others.now c.loop-told-test.false in
    record {
      labels = sym (kept-by-none labels) ∙ ap (λ alerts. kept_by (labels_of alerts) labels) (sym none) ∙ c.loop-told.invariant.0;
      annotations = sym (kept-by-none annotations) ∙ ap (λ alerts. kept_by (annotations_of alerts) annotations) (sym none) ∙ c.loop-told.invariant.1.0;
      labels_rise = c.loop-told.invariant.1.1.0;
      annotations_rise = c.loop-told.invariant.1.1.1;
    }
