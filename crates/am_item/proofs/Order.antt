-- The orders of keys and of stamps: total, and equal only at equal values.
pub use Rattle.am_item.specs.KeyTotal.{keys_total, lower_kind}
use Rattle.std.proofs.Common.{◌≡◌, List, [], ◌∷◌, refl, sym, ap, ◌∙◌, Ordering}
use Rattle.std.specs.Cmp.{IsTotalOrder}
use Rattle.std.specs.Cmp.Lexicographic.{slice_cmp}
use Rattle.std.specs.Ordering.{is_eq, nat_cmp, ordering_then}
use Rattle.std.specs.declared.cmp.Ordering.TheVariants.{Less, Equal, Greater}
use Rattle.std.proofs.lemmas.Bool.{true≢false}
use Rattle.std.proofs.lemmas.Cmp.{nat_cmp_total, on_total, then_total}
use Rattle.std.proofs.lemmas.Map.Lookups.{CmpEqualImpliesEq, exact_bytes, exact_unsigned}
use Rattle.am_labels.specs.declared.Label.{Label}
use Rattle.am_labels.specs.Labels.{label_cmp, labels_cmp}
use Rattle.am_item.specs.EntryKey.{entry_cmp}
use Rattle.am_item.specs.Key.{key_cmp}
use Rattle.am_item.specs.declared.key.ThingKey.{ThingKey as Key}
use Rattle.am_item.specs.declared.key.ThingKey.TheVariants.{Configuration as ConfigurationKey, Silence as SilenceKey, Alert as AlertKey, SentEntry as SentEntryKey}
use Rattle.am_item.specs.Stamp.{stamp_cmp}
use Rattle.am_item.specs.declared.entry.EntryKey.{EntryKey}
use Rattle.am_item.specs.declared.stamp.Stamp.{Stamp}

-- two comparisons, one after the other, are `Equal` only where both are
pub then_equal : (a b : Ordering) → ordering_then a b ≡ Equal → (a ≡ Equal) × (b ≡ Equal)
then_equal Less b h = absurd (true≢false (sym (ap is_eq h)))
then_equal Equal b h = (refl, h)
then_equal Greater b h = absurd (true≢false (sym (ap is_eq h)))

-- lists compare `Equal` only where they are equal, if their elements do
lists_exact : {K : Type 0} (R : K → K → Ordering) → CmpEqualImpliesEq R → CmpEqualImpliesEq (slice_cmp R)
lists_exact R exact [] [] h = refl
lists_exact R exact [] (y ∷ ys) h = absurd (true≢false (sym (ap is_eq h)))
lists_exact R exact (x ∷ xs) [] h = absurd (true≢false (sym (ap is_eq h)))
lists_exact R exact (x ∷ xs) (y ∷ ys) h =
    let both = then_equal (R x y) (slice_cmp R xs ys) h in
    ap (λ a. a ∷ xs) (exact x y both.0) ∙ ap (λ l. y ∷ l) (lists_exact R exact xs ys both.1)

-- labels compare `Equal` only where they are equal
label_exact : CmpEqualImpliesEq label_cmp
label_exact a b h =
    let both = then_equal (slice_cmp nat_cmp a.name b.name) (slice_cmp nat_cmp a.value b.value) h in
    ap (λ n. let l : Label = record { name = n; value = a.value } in l) (exact_bytes a.name b.name both.0)
    ∙ ap (λ v. let l : Label = record { name = b.name; value = v } in l) (exact_bytes a.value b.value both.1)

-- label sets compare `Equal` only where they are equal
pub labels_exact : (a b : List Label) → labels_cmp a b ≡ Equal → a ≡ b
unfolding labels_cmp
labels_exact = lists_exact label_cmp label_exact

-- keys of sent entries compare `Equal` only where they are equal
pub entries_exact : (a b : EntryKey) → entry_cmp a b ≡ Equal → a ≡ b
entries_exact a b h =
    let both = then_equal (ordering_then (slice_cmp nat_cmp a.receiver b.receiver) (slice_cmp nat_cmp a.group b.group)) (nat_cmp a.webhook b.webhook) h in
    let texts = then_equal (slice_cmp nat_cmp a.receiver b.receiver) (slice_cmp nat_cmp a.group b.group) both.0 in
    ap (λ r. let k : EntryKey = record { receiver = r; group = a.group; webhook = a.webhook } in k) (exact_bytes a.receiver b.receiver texts.0)
    ∙ ap (λ g. let k : EntryKey = record { receiver = b.receiver; group = g; webhook = a.webhook } in k) (exact_bytes a.group b.group texts.1)
    ∙ ap (λ w. let k : EntryKey = record { receiver = b.receiver; group = b.group; webhook = w } in k) (exact_unsigned a.webhook b.webhook both.1)

-- ---- keys

-- keys compare `Equal` only where they are equal
pub keys_exact : (a b : Key) → key_cmp a b ≡ Equal → a ≡ b
unfolding key_cmp
keys_exact ConfigurationKey ConfigurationKey h = refl
keys_exact ConfigurationKey (SilenceKey b) h = absurd (true≢false (sym (ap is_eq h)))
keys_exact ConfigurationKey (AlertKey b) h = absurd (true≢false (sym (ap is_eq h)))
keys_exact ConfigurationKey (SentEntryKey b) h = absurd (true≢false (sym (ap is_eq h)))
keys_exact (SilenceKey a) ConfigurationKey h = absurd (true≢false (sym (ap is_eq h)))
keys_exact (SilenceKey a) (SilenceKey b) h = ap SilenceKey (exact_bytes a b h)
keys_exact (SilenceKey a) (AlertKey b) h = absurd (true≢false (sym (ap is_eq h)))
keys_exact (SilenceKey a) (SentEntryKey b) h = absurd (true≢false (sym (ap is_eq h)))
keys_exact (AlertKey a) ConfigurationKey h = absurd (true≢false (sym (ap is_eq h)))
keys_exact (AlertKey a) (SilenceKey b) h = absurd (true≢false (sym (ap is_eq h)))
keys_exact (AlertKey a) (AlertKey b) h = ap AlertKey (labels_exact a b h)
keys_exact (AlertKey a) (SentEntryKey b) h = absurd (true≢false (sym (ap is_eq h)))
keys_exact (SentEntryKey a) ConfigurationKey h = absurd (true≢false (sym (ap is_eq h)))
keys_exact (SentEntryKey a) (SilenceKey b) h = absurd (true≢false (sym (ap is_eq h)))
keys_exact (SentEntryKey a) (AlertKey b) h = absurd (true≢false (sym (ap is_eq h)))
keys_exact (SentEntryKey a) (SentEntryKey b) h = ap SentEntryKey (entries_exact a b h)

-- ---- stamps

-- the order of stamps is total
pub stamps_total : IsTotalOrder stamp_cmp
unfolding stamp_cmp
stamps_total =
    then_total (on_total (λ (s : Stamp). s.moment) nat_cmp_total)
    (then_total (on_total (λ (s : Stamp). s.instance) nat_cmp_total)
    (then_total (on_total (λ (s : Stamp). s.incarnation) nat_cmp_total) (on_total (λ (s : Stamp). s.count) nat_cmp_total)))

-- stamps compare `Equal` only where they are equal
pub stamps_exact : (a b : Stamp) → stamp_cmp a b ≡ Equal → a ≡ b
unfolding stamp_cmp
stamps_exact a b h =
    let first = then_equal (nat_cmp a.moment b.moment) (ordering_then (nat_cmp a.instance b.instance) (ordering_then (nat_cmp a.incarnation b.incarnation) (nat_cmp a.count b.count))) h in
    let second = then_equal (nat_cmp a.instance b.instance) (ordering_then (nat_cmp a.incarnation b.incarnation) (nat_cmp a.count b.count)) first.1 in
    let third = then_equal (nat_cmp a.incarnation b.incarnation) (nat_cmp a.count b.count) second.1 in
    ap (λ n. let s : Stamp = record { moment = n; instance = a.instance; incarnation = a.incarnation; count = a.count } in s) (exact_unsigned a.moment b.moment first.0)
    ∙ ap (λ n. let s : Stamp = record { moment = b.moment; instance = n; incarnation = a.incarnation; count = a.count } in s) (exact_unsigned a.instance b.instance second.0)
    ∙ ap (λ n. let s : Stamp = record { moment = b.moment; instance = b.instance; incarnation = n; count = a.count } in s) (exact_unsigned a.incarnation b.incarnation third.0)
    ∙ ap (λ n. let s : Stamp = record { moment = b.moment; instance = b.instance; incarnation = b.incarnation; count = n } in s) (exact_unsigned a.count b.count third.1)
