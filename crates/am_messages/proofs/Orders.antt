-- The orders of names and lapses: total, and equal only at equal values.
use Rattle.std.proofs.Common.{◌≡◌, ◌≤◌, ◌<◌, ℕ, Bool, true, false, List, refl, sym, ap, ◌∙◌, arith, nat_le, Ordering, Less, Equal, Greater}
use Rattle.std.specs.Cmp.{IsTotalOrder, Equal-is}
use Rattle.std.specs.Cmp.Lexicographic.{slice_cmp}
use Rattle.std.specs.Ordering.{is_eq, is_gt, nat_cmp, ordering_then}
use Rattle.std.proofs.lemmas.Bool.Decides.{nat_tests}
use Rattle.std.proofs.lemmas.Cmp.{nat_cmp_total, nat_list_cmp_total, on_total, then_total, tied_itself}
use Rattle.std.proofs.lemmas.Map.Lookups.{exact_bytes, exact_unsigned}
use Rattle.am_messages.specs.declared.messages.Lapse.{Lapse}
use Rattle.am_messages.specs.declared.name.MessageName.{MessageName}
use Rattle.am_messages.specs.Names.{name_cmp, same_name}
use Rattle.am_messages.specs.Posted.{lapse_cmp}

-- two comparisons, one after the other, are `Equal` only where both are
then_equal : (a b : Ordering) → ordering_then a b ≡ Equal → (a ≡ Equal) × (b ≡ Equal)
then_equal Less b h = absurd (cc)
then_equal Equal b h = (refl, h)
then_equal Greater b h = absurd (cc)

names_total : IsTotalOrder name_cmp
names_total =
    then_total (on_total (λ (n : MessageName). n.tenant) nat_list_cmp_total)
    (then_total (on_total (λ (n : MessageName). n.from) nat_cmp_total)
    (then_total (on_total (λ (n : MessageName). n.incarnation) nat_cmp_total)
    (then_total (on_total (λ (n : MessageName). n.to) nat_cmp_total) (on_total (λ (n : MessageName). n.count) nat_cmp_total))))

names_exact : (a b : MessageName) → name_cmp a b ≡ Equal → a ≡ b
names_exact a b h =
    let one = then_equal (slice_cmp nat_cmp a.tenant b.tenant) (ordering_then (nat_cmp a.from b.from) (ordering_then (nat_cmp a.incarnation b.incarnation) (ordering_then (nat_cmp a.to b.to) (nat_cmp a.count b.count)))) h in
    let two = then_equal (nat_cmp a.from b.from) (ordering_then (nat_cmp a.incarnation b.incarnation) (ordering_then (nat_cmp a.to b.to) (nat_cmp a.count b.count))) one.1 in
    let three = then_equal (nat_cmp a.incarnation b.incarnation) (ordering_then (nat_cmp a.to b.to) (nat_cmp a.count b.count)) two.1 in
    let four = then_equal (nat_cmp a.to b.to) (nat_cmp a.count b.count) three.1 in
    ap (λ (x : List ℕ). let n : MessageName = record { tenant = x; from = a.from; incarnation = a.incarnation; to = a.to; count = a.count } in n) (exact_bytes a.tenant b.tenant one.0)
    ∙ ap (λ (x : ℕ). let n : MessageName = record { tenant = b.tenant; from = x; incarnation = a.incarnation; to = a.to; count = a.count } in n) (exact_unsigned a.from b.from two.0)
    ∙ ap (λ (x : ℕ). let n : MessageName = record { tenant = b.tenant; from = b.from; incarnation = x; to = a.to; count = a.count } in n) (exact_unsigned a.incarnation b.incarnation three.0)
    ∙ ap (λ (x : ℕ). let n : MessageName = record { tenant = b.tenant; from = b.from; incarnation = b.incarnation; to = x; count = a.count } in n) (exact_unsigned a.to b.to four.0)
    ∙ ap (λ (x : ℕ). let n : MessageName = record { tenant = b.tenant; from = b.from; incarnation = b.incarnation; to = b.to; count = x } in n) (exact_unsigned a.count b.count four.1)

pub one_name : (a b : MessageName) → same_name a b ≡ true → a ≡ b
one_name a b h = names_exact a b ((Equal-is (name_cmp a b)).0 h)

pub name_itself : (a : MessageName) → same_name a a ≡ true
name_itself a = ap is_eq (tied_itself names_total a)

lapses_total : IsTotalOrder lapse_cmp
lapses_total = then_total (on_total (λ (l : Lapse). l.at) nat_cmp_total) (on_total (λ (l : Lapse). l.name) names_total)

pub one_lapse : (a b : Lapse) → is_eq (lapse_cmp a b) ≡ true → a ≡ b
one_lapse a b h =
    let both = then_equal (nat_cmp a.at b.at) (name_cmp a.name b.name) ((Equal-is (lapse_cmp a b)).0 h) in
    ap (λ (x : ℕ). let l : Lapse = record { at = x; name = a.name } in l) (exact_unsigned a.at b.at both.0)
    ∙ ap (λ (x : MessageName). let l : Lapse = record { at = b.at; name = x } in l) (names_exact a.name b.name both.1)

pub lapse_itself : (a : Lapse) → is_eq (lapse_cmp a a) ≡ true
lapse_itself a = ap is_eq (tied_itself lapses_total a)

-- a lapse that is no lower than one that hasn't come hasn't come
pub not_come : (first lapse : Lapse) (now : ℕ) → is_gt (lapse_cmp first lapse) ≡ false → nat_le first.at now ≡ false → nat_le lapse.at now ≡ false
not_come first lapse now h late = later first.at lapse.at (no_earlier first.at lapse.at (name_cmp first.name lapse.name) h) late
  where
    no_earlier : (a b : ℕ) (rest : Ordering) → is_gt (ordering_then (nat_cmp a b) rest) ≡ false → a ≤ b
    no_earlier a b rest h = grind (arith, nat_tests)

    later : (a b : ℕ) → a ≤ b → nat_le a now ≡ false → nat_le b now ≡ false
    later a b le h = grind (arith, nat_tests)
