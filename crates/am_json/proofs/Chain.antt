-- A text that is written piece by piece.
use Rattle.std.proofs.Common.{◌≡◌, List, ◌++◌, ap, ◌∙◌, append_assoc}
use Rattle.json.specs.Token.{Token}

-- two pieces, one after the other
pub after : (old first second : List Token) {mid new : List Token} → mid ≡ old ++ first → new ≡ mid ++ second → new ≡ old ++ (first ++ second)
after old first second one two = two ∙ ap (λ tokens. tokens ++ second) one ∙ append_assoc old first second
