-- What is built of texts, one after another.
use Rattle.std.proofs.Common.{◌≡◌, ℕ, ◌+◌, ◌<◌, List, [], ◌∷◌, All, append-nil, get_or, length, take}
use Rattle.std.specs.List.{flat_map}
use Rattle.std.proofs.lemmas.Grind.{flat_map-append}
use Rattle.std.proofs.lemmas.List.{take_more}
use Rattle.std.proofs.lemmas.List.Elements.{All-append}
use Rattle.am_pattern.specs.Kept.{HasRegex}
use Rattle.am_config.specs.Matching.{patterns_of_texts}

-- what holds of all that elements bring, and of what the next brings, holds of what those up to the next bring
module _ {A B : Type 0} (Is : B → Type 0) (brings : A → List B) (xs : List A) (i : ℕ) (x : A) where
  pub all_more : i < length xs → x ≡ get_or xs i x → All Is (flat_map brings (take i xs)) → All Is (brings x) →
      All Is (flat_map brings (take (i + 1) xs))
  all_more within is before here =
      rw (take_more xs i x within, ← is, flat_map-append brings (take i xs) (x ∷ []), append-nil (brings x))
      (All-append Is (flat_map brings (take i xs)) (brings x) before here)

-- the same of lists of texts
module _ {A : Type 0} (texts : A → List (List ℕ)) (xs : List A) (i : ℕ) (x : A) where
  pub built_more : i < length xs → x ≡ get_or xs i x → All HasRegex (patterns_of_texts (flat_map texts (take i xs))) →
      All HasRegex (patterns_of_texts (texts x)) → All HasRegex (patterns_of_texts (flat_map texts (take (i + 1) xs)))
  built_more within is before here =
      rw (
        take_more xs i x within,
        ← is,
        flat_map-append texts (take i xs) (x ∷ []),
        append-nil (texts x),
        flat_map-append _ (flat_map texts (take i xs)) (texts x),
      )
      (All-append HasRegex (patterns_of_texts (flat_map texts (take i xs))) (patterns_of_texts (texts x)) before here)
