-- Labels, their names and their order.
use Rattle.std.specs.Prelude.{ℕ, Bool, false, ◌&&◌, ◌||◌, not, ◌==◌, List, [], ◌∷◌, length}
use Rattle.std.specs.Char.{is_ascii_alphabetic, is_ascii_alphanumeric}
use Rattle.std.specs.Cmp.{IsTotalOrder, on_total, then_total}
use Rattle.std.specs.Cmp.Lexicographic.{slice_cmp, lists_total, nat_list_cmp_total}
use Rattle.std.specs.List.{list_all, list_any}
use Rattle.std.specs.Ordering.{nat_cmp, ordering_then}
use Rattle.std.specs.Str.{bytes_eq}
use Rattle.std.specs.declared.cmp.Ordering.{Ordering}
use Rattle.am_labels.specs.declared.Label.{Label}

-- a byte with which a label name may begin: a letter or _
abbrev pub may_begin : ℕ → Bool
may_begin byte = is_ascii_alphabetic byte || byte == 95

-- a byte that may follow: a letter, a digit or _
abbrev pub may_follow : ℕ → Bool
may_follow byte = is_ascii_alphanumeric byte || byte == 95

-- a label name
unfoldable pub is_label_name : List ℕ → Bool
is_label_name [] = false
is_label_name (first ∷ rest) = may_begin first && list_all may_follow rest

-- the order of names: by bytes
abbrev pub name_cmp : Label → Label → Ordering
name_cmp a b = slice_cmp nat_cmp a.name b.name

-- the order of labels: by name, then by value, each by bytes
abbrev pub label_cmp : Label → Label → Ordering
label_cmp a b = ordering_then (slice_cmp nat_cmp a.name b.name) (slice_cmp nat_cmp a.value b.value)

-- the order of lists of labels: the first label that differs decides, and a list stands before those that it begins
unfoldable pub labels_cmp : List Label → List Label → Ordering
labels_cmp a b = slice_cmp label_cmp a b

pub label_total : IsTotalOrder label_cmp
label_total = then_total (on_total (λ (l : Label). l.name) nat_list_cmp_total) (on_total (λ (l : Label). l.value) nat_list_cmp_total)

pub labels_total : IsTotalOrder labels_cmp
unfolding labels_cmp
labels_total = lists_total label_total

-- the label has a value that isn't empty
abbrev pub has_value : Label → Bool
has_value label = not (length label.value == 0)

-- one of the labels has this name
abbrev pub has_name : List ℕ → List Label → Bool
has_name name labels = list_any (λ label. bytes_eq name label.name) labels

-- a name is given twice
abbrev pub repeats : List Label → Bool
repeats [] = false
repeats (label ∷ labels) = has_name label.name labels || repeats labels

-- all names are label names
abbrev pub are_label_names : List Label → Bool
are_label_names labels = list_all (λ label. is_label_name label.name) labels
