-- What a call comes to: its value, or the refusal that its input meets. Memory that ran out says nothing of it.
use Rattle.std.specs.Prelude.{◌≡◌, ℕ, List, Option, Some, Result, Ok, Err, codes}
use Rattle.am_text.specs.declared.failure.Failure.{Failure}
use Rattle.am_text.specs.declared.failure.Failure.TheVariants.{Refused, OutOfMemory}

-- a refusal that was returned is the one that the outcome is; out of memory says nothing of it
abbrev pub Fails : {Y R : Type 0} → Failure R → Result Y R → Type 0
Fails (Refused refusal) outcome = outcome ≡ Err refusal
Fails OutOfMemory outcome = Unit {0}

-- what was returned, seen by view, is the outcome, unless memory ran out
abbrev pub Gives : {X Y R : Type 0} → (X → Y) → Result X (Failure R) → Result Y R → Type 0
Gives view (Ok x) outcome = outcome ≡ Ok (view x)
Gives view (Err failure) outcome = Fails failure outcome

-- one step after another, up to the first refusal
infixl 10 ◌>>=◌
abbrev pub ◌>>=◌ : {A B R : Type 0} → Result A R → (A → Result B R) → Result B R
(Ok x) >>= next = next x
(Err refusal) >>= next = Err refusal

-- the outcome with the refusal that map makes of its refusal
abbrev pub outcome_map : {Y R S : Type 0} → (R → S) → Result Y R → Result Y S
outcome_map map (Ok y) = Ok y
outcome_map map (Err refusal) = Err (map refusal)

-- the outcome with another refusal, whatever its refusal was
abbrev pub outcome_as : {Y R S : Type 0} → S → Result Y R → Result Y S
outcome_as refusal (Ok y) = Ok y
outcome_as refusal (Err other) = Err refusal

-- the failure with another refusal, whatever its refusal was
abbrev pub refused_as : {R S : Type 0} → S → Failure R → Failure S
refused_as refusal (Refused other) = Refused refusal
refused_as refusal OutOfMemory = OutOfMemory

-- the same of a result
abbrev pub result_refused_as : {X R S : Type 0} → S → Result X (Failure R) → Result X (Failure S)
result_refused_as refusal (Ok x) = Ok x
result_refused_as refusal (Err failure) = Err (refused_as refusal failure)

-- what a failure prints, by what a refusal prints
abbrev pub shown_by : {R : Type 0} → (R → Option (List ℕ)) → Failure R → Option (List ℕ)
shown_by shown (Refused refusal) = shown refusal
shown_by shown OutOfMemory = Some (codes "out of memory")

-- this of the refusal, and that where memory ran out
abbrev pub MatchFailure : {R : Type 0} → Failure R → (R → Type 0) → Type 0 → Type 0
MatchFailure (Refused refusal) P Q = P refusal
MatchFailure OutOfMemory P Q = Q

-- it is a refusal, and this holds of it
abbrev pub IsRefusedAnd : {R : Type 0} → Failure R → (R → Type 0) → Type 0
IsRefusedAnd failure P = MatchFailure failure P ⊥

-- this holds of it where it is a refusal
abbrev pub ForRefused : {R : Type 0} → Failure R → (R → Type 0) → Type 0
ForRefused failure P = MatchFailure failure P (Unit {0})
