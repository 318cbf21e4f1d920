-- FNV-1a, the fingerprint of a label set and the place of a tenant.
use Rattle.std.specs.Prelude.{ℕ, ◌*◌, ◌%◌, ◌^◌, bit_xor, List, [], ◌∷◌, ◌++◌}
use Rattle.std.specs.List.{flat_map}
use Rattle.std.specs.Int.{to_be_bytes, w64}
use Rattle.hex.specs.Hex.{encode_lower}
use Rattle.am_labels.specs.declared.Label.{Label}

-- the FNV-1a hash of 32 bits, from a hash that stands for the bytes before: each byte is exclusive-ored in, then the hash is multiplied
unfoldable pub fnv32_from : ℕ → List ℕ → ℕ
fnv32_from hash [] = hash
fnv32_from hash (byte ∷ bytes) = fnv32_from (bit_xor hash byte * 16777619 % 2 ^ 32) bytes

-- the same of 64 bits
unfoldable pub fnv64_from : ℕ → List ℕ → ℕ
fnv64_from hash [] = hash
fnv64_from hash (byte ∷ bytes) = fnv64_from (bit_xor hash byte * 1099511628211 % 2 ^ 64) bytes

-- the FNV-1a hash of 32 bits
abbrev pub fnv32 : List ℕ → ℕ
fnv32 bytes = fnv32_from 2166136261 bytes

-- the FNV-1a hash of 64 bits
abbrev pub fnv64 : List ℕ → ℕ
fnv64 bytes = fnv64_from 14695981039346656037 bytes

-- a label as it is hashed: its name and its value, each with byte 255 after it
abbrev pub label_bytes : Label → List ℕ
label_bytes label = label.name ++ 255 ∷ (label.value ++ 255 ∷ [])

-- the fingerprint of labels in order of name
unfoldable pub fingerprint : List Label → ℕ
fingerprint labels = fnv64 (flat_map label_bytes labels)

-- a tenant's place: the hash of 32 bits of its name
abbrev pub place : List ℕ → ℕ
place name = fnv32 name

-- a fingerprint as it is printed: its eight bytes, the greatest first, each as two lower hexadecimal digits
unfoldable pub fingerprint_text : ℕ → List ℕ
fingerprint_text number = encode_lower (to_be_bytes w64 number)
