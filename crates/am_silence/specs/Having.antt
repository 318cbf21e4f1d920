-- The silences that have matchers which are asked for.
use Rattle.std.specs.Prelude.{Bool, List, filter}
use Rattle.std.specs.Borrow.{Bor}
use Rattle.std.specs.List.{list_all, list_any}
use Rattle.am_match.specs.Matchers.{MatcherText}
use Rattle.am_item.specs.declared.item.Item.{Item}
use Rattle.am_silence.specs.Changing.{same_matcher}
use Rattle.am_silence.specs.Held.{SilenceValue, silences_among}

-- one of the matchers is equal to this one
abbrev pub has_matcher : List MatcherText → MatcherText → Bool
has_matcher matchers wanted = list_any (λ m. same_matcher m wanted) matchers

-- each of the wanted ones is among the matchers
abbrev pub has_matchers : (matchers wanted : List MatcherText) → Bool
has_matchers matchers wanted = list_all (has_matcher matchers) wanted

-- each of the wanted ones, as they are borrowed, is among the matchers
unfoldable pub has_borrowed : List MatcherText → List (Bor MatcherText) → Bool
has_borrowed matchers wanted = list_all (λ m. has_matcher matchers m.now) wanted

-- the silences that have each of the wanted matchers, in order
unfoldable pub having : List MatcherText → List Item → List SilenceValue
having wanted held = filter (λ s. has_matchers s.details.matchers wanted) (silences_among held)
