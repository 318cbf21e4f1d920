-- The orders of keys, names and timers: total, and equal only at equal values.
use Rattle.std.proofs.Common.{◌≡◌, ℕ, List, true, refl, ap, ◌∙◌, Ordering, Less, Equal, Greater}
use Rattle.std.specs.Cmp.{IsTotalOrder, Equal-is}
use Rattle.std.specs.Cmp.Lexicographic.{slice_cmp}
use Rattle.std.specs.Ordering.{is_eq, nat_cmp, ordering_then}
use Rattle.std.proofs.lemmas.Cmp.{nat_cmp_total, nat_list_cmp_total, on_total, then_total, tied_itself}
use Rattle.std.proofs.lemmas.Map.Lookups.{CmpEqualImpliesEq, exact_bytes, exact_unsigned}
use Rattle.am_labels.specs.declared.Label.{Label}
use Rattle.am_labels.specs.Labels.{labels_cmp}
use Rattle.am_labels.proofs.InOrder.{labels_exact}
use Rattle.am_timer.specs.Timer.{Key, Name, Timer, flush_key_cmp, key_cmp, name_cmp, timer_cmp}
use Rattle.am_timer.specs.KeyTotal.{keys_total}
use Rattle.am_timer.specs.declared.key.FlushKey.{FlushKey}
use Rattle.am_timer.specs.declared.key.TimerKey.TheVariants.{Operation, Group, Retry, Push}

-- two comparisons, one after the other, are `Equal` only where both are
then_equal : (a b : Ordering) → ordering_then a b ≡ Equal → (a ≡ Equal) × (b ≡ Equal)
then_equal Less b h = absurd (cc)
then_equal Equal b h = (refl, h)
then_equal Greater b h = absurd (cc)

groups_exact : (a b : FlushKey) → flush_key_cmp a b ≡ Equal → a ≡ b
groups_exact a b h =
    let first = then_equal (slice_cmp nat_cmp a.receiver b.receiver) (ordering_then (labels_cmp a.labels b.labels) (nat_cmp a.route b.route)) h in
    let rest = then_equal (labels_cmp a.labels b.labels) (nat_cmp a.route b.route) first.1 in
    ap (λ (r : List ℕ). let g : FlushKey = record { receiver = r; labels = a.labels; route = a.route } in g) (exact_bytes a.receiver b.receiver first.0)
    ∙ ap (λ (l : List Label). let g : FlushKey = record { receiver = b.receiver; labels = l; route = a.route } in g) (labels_exact a.labels b.labels rest.0)
    ∙ ap (λ (n : ℕ). let g : FlushKey = record { receiver = b.receiver; labels = b.labels; route = n } in g) (exact_unsigned a.route b.route rest.1)

pub keys_exact : (a b : Key) → key_cmp a b ≡ Equal → a ≡ b
unfolding key_cmp
keys_exact (Operation a) (Operation b) h = ap Operation (exact_unsigned a b h)
keys_exact (Operation a) (Group b) h = absurd (cc)
keys_exact (Operation a) (Retry b) h = absurd (cc)
keys_exact (Operation a) (Push b) h = absurd (cc)
keys_exact (Group a) (Operation b) h = absurd (cc)
keys_exact (Group a) (Group b) h = ap Group (groups_exact a b h)
keys_exact (Group a) (Retry b) h = absurd (cc)
keys_exact (Group a) (Push b) h = absurd (cc)
keys_exact (Retry a) (Operation b) h = absurd (cc)
keys_exact (Retry a) (Group b) h = absurd (cc)
keys_exact (Retry a) (Retry b) h = ap Retry (exact_unsigned a b h)
keys_exact (Retry a) (Push b) h = absurd (cc)
keys_exact (Push a) (Operation b) h = absurd (cc)
keys_exact (Push a) (Group b) h = absurd (cc)
keys_exact (Push a) (Retry b) h = absurd (cc)
keys_exact (Push a) (Push b) h = ap Push (exact_unsigned a b h)

names_total : IsTotalOrder name_cmp
names_total = then_total (on_total (λ (n : Name). n.tenant) nat_list_cmp_total) (on_total (λ (n : Name). n.key) keys_total)

pub names_exact : CmpEqualImpliesEq name_cmp
names_exact a b h =
    let both = then_equal (slice_cmp nat_cmp a.tenant b.tenant) (key_cmp a.key b.key) h in
    ap (λ (t : List ℕ). let n : Name = record { tenant = t; key = a.key } in n) (exact_bytes a.tenant b.tenant both.0)
    ∙ ap (λ (k : Key). let n : Name = record { tenant = b.tenant; key = k } in n) (keys_exact a.key b.key both.1)

pub timers_total : IsTotalOrder timer_cmp
timers_total = then_total (on_total (λ (x : Timer). x.due) nat_cmp_total) (on_total (λ (x : Timer). x.name) names_total)

pub timers_exact : CmpEqualImpliesEq timer_cmp
timers_exact a b h =
    let both = then_equal (nat_cmp a.due b.due) (name_cmp a.name b.name) h in
    ap (λ (d : ℕ). let x : Timer = record { due = d; name = a.name } in x) (exact_unsigned a.due b.due both.0)
    ∙ ap (λ (n : Name). let x : Timer = record { due = b.due; name = n } in x) (names_exact a.name b.name both.1)

-- the tests of names and of timers tell which are equal
pub same_name : (a b : Name) → is_eq (name_cmp a b) ≡ true → a ≡ b
same_name a b h = names_exact a b ((Equal-is (name_cmp a b)).0 h)

pub name_ties : (a : Name) → name_cmp a a ≡ Equal
name_ties a = tied_itself names_total a

pub same_timer : (a b : Timer) → is_eq (timer_cmp a b) ≡ true → a ≡ b
same_timer a b h = timers_exact a b ((Equal-is (timer_cmp a b)).0 h)

pub timer_itself : (a : Timer) → is_eq (timer_cmp a a) ≡ true
timer_itself a = ap is_eq (tied_itself timers_total a)
