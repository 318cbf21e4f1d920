-- The hash of bytes after bytes.
use Rattle.std.proofs.Common.{◌≡◌, ℕ, ◌*◌, ◌%◌, ◌^◌, List, [], ◌∷◌, ◌++◌, refl, sym, ◌∙◌, bit_xor}
use Rattle.std.specs.List.{flat_map}
use Rattle.am_labels.specs.declared.Label.{Label}
use Rattle.am_labels.specs.Hashes.{fnv64_from, label_bytes}

-- hashing two lists one after the other
pub fnv64_from-append : (hash : ℕ) (xs ys : List ℕ) → fnv64_from hash (xs ++ ys) ≡ fnv64_from (fnv64_from hash xs) ys
unfolding fnv64_from
fnv64_from-append hash [] ys = refl
fnv64_from-append hash (x ∷ xs) ys = fnv64_from-append (bit_xor hash x * 1099511628211 % 2 ^ 64) xs ys

-- hashing a label and those after it
pub fnv64_from-labels : (hash : ℕ) (label : Label) (labels : List Label) → fnv64_from hash (flat_map label_bytes (label ∷ labels)) ≡ fnv64_from (fnv64_from hash (label_bytes label)) (flat_map label_bytes labels)
fnv64_from-labels hash label labels = fnv64_from-append hash (label_bytes label) (flat_map label_bytes labels)

-- hashing a label's name and value, each with byte 255 after it
pub fnv64_from-label : (hash : ℕ) (label : Label) → fnv64_from (fnv64_from (fnv64_from (fnv64_from hash label.name) (255 ∷ [])) label.value) (255 ∷ []) ≡ fnv64_from hash (label_bytes label)
fnv64_from-label hash label =
    sym (fnv64_from-append hash label.name (255 ∷ (label.value ++ 255 ∷ [])) ∙ fnv64_from-append (fnv64_from hash label.name) (255 ∷ []) (label.value ++ 255 ∷ []) ∙ fnv64_from-append (fnv64_from (fnv64_from hash label.name) (255 ∷ [])) label.value (255 ∷ []))
