-- The order of keys is total.
use Rattle.std.specs.Prelude.{◌≡◌, ℕ, []}
use Rattle.std.specs.Cmp.{IsTotalOrder, nat_cmp_total, on_total, then_total}
use Rattle.std.specs.Cmp.Lexicographic.{nat_list_cmp_total}
use Rattle.std.specs.Ordering.{nat_cmp, ordering_then}
use Rattle.std.specs.declared.cmp.Ordering.{Ordering}
use Rattle.std.specs.declared.cmp.Ordering.TheVariants.{Less, Equal, Greater}
use Rattle.std.proofs.Common.{refl, sym, subst}
use Rattle.am_labels.specs.Labels.{labels_cmp, labels_total}
use Rattle.am_timer.specs.Timer.{Key, flush_key_cmp, key_cmp, kind_of}
use Rattle.am_timer.specs.declared.key.FlushKey.{FlushKey}
use Rattle.am_timer.specs.declared.key.TimerKey.TheVariants.{Operation, Group, Retry, Push}

pub groups_total : IsTotalOrder flush_key_cmp
groups_total =
    then_total (on_total (λ (g : FlushKey). g.receiver) nat_list_cmp_total)
    (then_total (on_total (λ (g : FlushKey). g.labels) labels_total) (on_total (λ (g : FlushKey). g.route) nat_cmp_total))

-- the number and the group that a key has, each the least at other kinds
number_in : Key → ℕ
number_in (Operation number) = number
number_in (Group group) = 0
number_in (Retry number) = number
number_in (Push instance) = instance

no_group : FlushKey
no_group = record { receiver = []; labels = []; route = 0 }

group_in : Key → FlushKey
group_in (Operation number) = no_group
group_in (Group group) = group
group_in (Retry number) = no_group
group_in (Push instance) = no_group

-- keys by kind, then number, then group
by_parts : Key → Key → Ordering
by_parts a b =
    ordering_then (nat_cmp (kind_of a) (kind_of b)) (ordering_then (nat_cmp (number_in a) (number_in b)) (flush_key_cmp (group_in a) (group_in b)))

by_parts_total : IsTotalOrder by_parts
unfolding by_parts
by_parts_total = then_total (on_total kind_of nat_cmp_total) (then_total (on_total number_in nat_cmp_total) (on_total group_in groups_total))

-- nothing more decides
then_nothing : (o : Ordering) → o ≡ ordering_then o Equal
then_nothing Less = refl
then_nothing Equal = refl
then_nothing Greater = refl

-- that is the order of keys
parted : (a b : Key) → by_parts a b ≡ key_cmp a b
unfolding by_parts key_cmp labels_cmp number_in group_in no_group
parted (Operation a) (Operation b) = sym (then_nothing (nat_cmp a b))
parted (Operation a) (Group b) = refl
parted (Operation a) (Retry b) = refl
parted (Operation a) (Push b) = refl
parted (Group a) (Operation b) = refl
parted (Group a) (Group b) = refl
parted (Group a) (Retry b) = refl
parted (Group a) (Push b) = refl
parted (Retry a) (Operation b) = refl
parted (Retry a) (Group b) = refl
parted (Retry a) (Retry b) = sym (then_nothing (nat_cmp a b))
parted (Retry a) (Push b) = refl
parted (Push a) (Operation b) = refl
parted (Push a) (Group b) = refl
parted (Push a) (Retry b) = refl
parted (Push a) (Push b) = sym (then_nothing (nat_cmp a b))

-- the order of keys is total
pub keys_total : IsTotalOrder key_cmp
keys_total = subst IsTotalOrder (λ i a b. parted a b i) by_parts_total
