-- The order of keys is total.
use Rattle.std.specs.Prelude.{◌≡◌, ℕ, List, []}
use Rattle.std.specs.Cmp.{IsTotalOrder, nat_cmp_total, on_total, then_total}
use Rattle.std.specs.Cmp.Lexicographic.{slice_cmp, nat_list_cmp_total}
use Rattle.std.specs.Ordering.{nat_cmp, ordering_then}
use Rattle.std.specs.declared.cmp.Ordering.{Ordering}
use Rattle.std.specs.declared.cmp.Ordering.TheVariants.{Less, Equal, Greater}
use Rattle.std.proofs.Common.{refl, sym, ap, ◌∙◌, subst}
use Rattle.am_labels.specs.declared.Label.{Label}
use Rattle.am_labels.specs.Labels.{label_cmp, labels_cmp, labels_total}
use Rattle.am_item.specs.EntryKey.{entry_cmp, entry_total}
use Rattle.am_item.specs.Key.{key_cmp, kind_of}
use Rattle.am_item.specs.declared.key.ThingKey.{ThingKey as Key}
use Rattle.am_item.specs.declared.key.ThingKey.TheVariants.{Configuration as ConfigurationKey, Silence as SilenceKey, Alert as AlertKey, SentEntry as SentEntryKey}
use Rattle.am_item.specs.declared.entry.EntryKey.{EntryKey}

-- the identifier, the label set and the name of a sent entry that a key has, each empty at other kinds
id_in : Key → List ℕ
id_in ConfigurationKey = []
id_in (SilenceKey id) = id
id_in (AlertKey labels) = []
id_in (SentEntryKey entry) = []

labels_in : Key → List Label
labels_in ConfigurationKey = []
labels_in (SilenceKey id) = []
labels_in (AlertKey labels) = labels
labels_in (SentEntryKey entry) = []

no_entry : EntryKey
no_entry = record { receiver = []; group = []; webhook = 0 }

entry_in : Key → EntryKey
entry_in ConfigurationKey = no_entry
entry_in (SilenceKey id) = no_entry
entry_in (AlertKey labels) = no_entry
entry_in (SentEntryKey entry) = entry

-- keys by kind, then by each of these
by_parts : Key → Key → Ordering
by_parts a b =
    ordering_then (nat_cmp (kind_of a) (kind_of b))
    (ordering_then (slice_cmp nat_cmp (id_in a) (id_in b)) (ordering_then (labels_cmp (labels_in a) (labels_in b)) (entry_cmp (entry_in a) (entry_in b))))

by_parts_total : IsTotalOrder by_parts
unfolding by_parts
by_parts_total = then_total (on_total kind_of nat_cmp_total) (then_total (on_total id_in nat_list_cmp_total) (then_total (on_total labels_in labels_total) (on_total entry_in entry_total)))

-- nothing more decides
then_nothing : (o : Ordering) → o ≡ ordering_then o Equal
then_nothing Less = refl
then_nothing Equal = refl
then_nothing Greater = refl

-- that is the order of keys
parted : (a b : Key) → by_parts a b ≡ key_cmp a b
unfolding by_parts key_cmp labels_cmp id_in labels_in entry_in no_entry
parted ConfigurationKey ConfigurationKey = refl
parted ConfigurationKey (SilenceKey b) = refl
parted ConfigurationKey (AlertKey b) = refl
parted ConfigurationKey (SentEntryKey b) = refl
parted (SilenceKey a) ConfigurationKey = refl
parted (SilenceKey a) (SilenceKey b) = sym (then_nothing (slice_cmp nat_cmp a b))
parted (SilenceKey a) (AlertKey b) = refl
parted (SilenceKey a) (SentEntryKey b) = refl
parted (AlertKey a) ConfigurationKey = refl
parted (AlertKey a) (SilenceKey b) = refl
parted (AlertKey a) (AlertKey b) = sym (then_nothing (slice_cmp label_cmp a b))
parted (AlertKey a) (SentEntryKey b) = refl
parted (SentEntryKey a) ConfigurationKey = refl
parted (SentEntryKey a) (SilenceKey b) = refl
parted (SentEntryKey a) (AlertKey b) = refl
parted (SentEntryKey a) (SentEntryKey b) = refl

-- a key of a lower kind is lower
pub lower_kind : (a b : Key) → nat_cmp (kind_of a) (kind_of b) ≡ Less → key_cmp a b ≡ Less
unfolding by_parts
lower_kind a b h =
    let rest = ordering_then (slice_cmp nat_cmp (id_in a) (id_in b)) (ordering_then (labels_cmp (labels_in a) (labels_in b)) (entry_cmp (entry_in a) (entry_in b))) in
    sym (parted a b) ∙ ap (λ o. ordering_then o rest) h

-- the order of keys is total
pub keys_total : IsTotalOrder key_cmp
keys_total = subst IsTotalOrder (λ i a b. parted a b i) by_parts_total
