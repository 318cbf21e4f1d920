-- Label sets that are alike: they have equal values of some labels.
use Rattle.std.specs.Prelude.{ℕ, List, Bool, map}
use Rattle.std.specs.Cmp.{IsTotalOrder}
use Rattle.std.specs.Cmp.Lexicographic.{lists_total, nat_list_cmp_total, slice_cmp}
use Rattle.std.specs.List.{list_all}
use Rattle.std.specs.Ordering.{nat_cmp}
use Rattle.std.specs.Str.{bytes_eq}
use Rattle.std.specs.declared.cmp.Ordering.{Ordering}
use Rattle.am_labels.specs.declared.Label.{Label}
use Rattle.am_labels.specs.Sets.{value_of}

-- equal values of every label of these names; a missing label has the empty value
abbrev pub are_alike : List (List ℕ) → List Label → List Label → Bool
are_alike names one other = list_all (λ name. bytes_eq (value_of name one) (value_of name other)) names

-- the values of the labels of these names
abbrev pub key_of : List (List ℕ) → List Label → List (List ℕ)
key_of names labels = map (λ name. value_of name labels) names

-- the order of keys: the first value that differs decides, by bytes
abbrev pub keys_cmp : List (List ℕ) → List (List ℕ) → Ordering
keys_cmp one other = slice_cmp (slice_cmp nat_cmp) one other

pub keys_total : IsTotalOrder keys_cmp
keys_total = lists_total nat_list_cmp_total
