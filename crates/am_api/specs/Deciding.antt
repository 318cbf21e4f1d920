-- What was returned for a request, against the decision on it.
use Rattle.std.specs.Prelude.{◌≡◌, ◌⊎◌, ℕ, ◌+◌, ◌<◌, true, false, List, [], ◌∷◌, All, codes, length, Result, Ok, Err}
use Rattle.am_pattern.specs.Kept.{HasRegex}
use Rattle.am_item.specs.declared.fault.Fault.{Fault}
use Rattle.am_item.specs.declared.fault.Fault.TheVariants.{CountsExhausted, OutOfMemory, PatternNotBuilt, StoreRefused}
use Rattle.am_item.specs.declared.item.Item.{Item}
use Rattle.am_alert.specs.Made.{counts_fit}
use Rattle.am_api.specs.declared.decision.Decided.{Decided}
use Rattle.am_query.specs.Patterns.{HasRefused}
use Rattle.am_muting.specs.Failing.{HasUnanswered}
use Rattle.am_api.specs.Replied.{Decision, refused}

-- what a decision says, without where it lies in memory
abbrev pub decision_of : Decided → Decision
decision_of d = record { items = d.items.items; status = d.status; body = d.body; drawn = d.drawn }

-- it is this decision, whose counts are none past the greatest
abbrev pub IsDecision : Decided → Decision → Type 0
IsDecision d decision = (decision_of d ≡ decision) × (counts_fit decision.items ≡ true)

-- what was returned is this decision; it fails only where a count would pass the greatest, or where memory runs out
abbrev pub Decides : Result Decided Fault → Decision → Type 0
Decides (Ok d) decision = IsDecision d decision
Decides (Err CountsExhausted) decision = counts_fit decision.items ≡ false
Decides (Err OutOfMemory) decision = Unit {0}
Decides (Err PatternNotBuilt) decision = ⊥
Decides (Err StoreRefused) decision = ⊥

-- a refusal for a pattern that is not built: of one that nests too deep it is that of a text which is no pattern
abbrev pub IsUnbuilt : Decision → Type 0
IsUnbuilt decision =
    (decision ≡ refused 503 (codes "B2")) ⊎ ((decision ≡ refused 400 (codes "M2"))
    ⊎ (decision ≡ refused 400 (codes "C7")))

-- The same, whatever was refused a build: a pattern of the request that stands among the refused ones may refuse the
-- request, and one in use that gives no answer may be the fault.
abbrev pub DecidesUnless : List (List ℕ) → List (List ℕ) → List (List ℕ) → Result Decided Fault → Decision → Type 0
DecidesUnless refused own stored (Ok d) decision =
    IsDecision d decision ⊎ (IsUnbuilt (decision_of d) × HasRefused refused own)
DecidesUnless refused own stored (Err CountsExhausted) decision = counts_fit decision.items ≡ false
DecidesUnless refused own stored (Err OutOfMemory) decision = Unit {0}
DecidesUnless refused own stored (Err PatternNotBuilt) decision = HasUnanswered refused stored
DecidesUnless refused own stored (Err StoreRefused) decision = ⊥

-- .. where such a pattern refuses the request so alone. Where it is the decision, no text is refused that wasn't before
abbrev pub DecidesBy : (Decision → Type 0) → (had refused own stored : List (List ℕ)) → Result Decided Fault → Decision
    → Type 0
DecidesBy Refuses had refused own stored (Ok d) decision =
    (IsDecision d decision × (refused ≡ had)) ⊎
    (Refuses (decision_of d) × (IsUnbuilt (decision_of d) × HasRefused refused own))
DecidesBy Refuses had refused own stored (Err fault) decision = DecidesUnless refused own stored (Err fault) decision

-- the request is accepted: something is stored, or the reply is no refusal
abbrev pub IsAccepted : Decided → Type 0
IsAccepted d = (0 < length d.items.items) ⊎ (d.status < 400)

-- where the request is accepted, a regex was built of each of these texts
abbrev pub AcceptsBuilt : List (List ℕ) → Decided → Type 0
AcceptsBuilt patterns d = IsAccepted d → All HasRegex patterns

-- the items are stamped with one count after another, from the one after those that were used
abbrev pub AreCounted : ℕ → List Item → Type 0
AreCounted used [] = Unit {0}
AreCounted used (item ∷ items) = (item.stamp.count ≡ used + 1) × AreCounted (used + 1) items
