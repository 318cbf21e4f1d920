-- How matchers are written one after another.
use Rattle.std.proofs.Common.{◌≡◌, ℕ, List, [], ◌∷◌, ◌++◌, sym, ap, ◌∙◌, append_assoc, append-nil}
use Rattle.std.specs.List.{flat_map}
use Rattle.std.proofs.lemmas.Grind.{flat_map-append}
use Rattle.am_match.specs.Matchers.{MatcherText}
use Rattle.am_match.specs.Spelling.{matcher_bytes}

-- one matcher more was written
pub spelled_more : (start before after : List ℕ) (ms : List MatcherText) (m : MatcherText) →
    before ≡ start ++ flat_map matcher_bytes ms → after ≡ before ++ matcher_bytes m →
    after ≡ start ++ flat_map matcher_bytes (ms ++ m ∷ [])
spelled_more start before after ms m so_far here =
    here ∙ ap (λ b. b ++ matcher_bytes m) so_far ∙ append_assoc start (flat_map matcher_bytes ms) (matcher_bytes m)
    ∙ sym (ap (λ b. start ++ b)
    (flat_map-append matcher_bytes ms (m ∷ []) ∙ ap (λ b. flat_map matcher_bytes ms ++ b) (append-nil (matcher_bytes m))))
