-- What follows for an outcome of several steps, from what each step gives.
use Rattle.std.proofs.Common.{◌≡◌, List, [], ◌∷◌, ◌++◌, Result, Ok, Err, IsErrAnd, refl, ap, append_assoc}
use Rattle.am_text.specs.declared.failure.Failure.{Failure}
use Rattle.am_text.specs.declared.failure.Failure.TheVariants.{Refused, OutOfMemory}
use Rattle.am_text.specs.Outcome.{Fails, Gives, ◌>>=◌, outcome_as, refused_as, result_refused_as}

module _ {R : Type 0} where
  -- a value is given where it is the outcome
  pub gives-ok : {X Y : Type 0} (view : X → Y) (x : X) (outcome : Result Y R) → outcome ≡ Ok (view x) → Gives view (Ok x) outcome
  gives-ok view x outcome h = h

  -- what `?` hands on
  pub gives-failed : {X Y : Type 0} (view : X → Y) (result : Result X (Failure R)) (failure : Failure R) (outcome : Result Y R)
      → IsErrAnd result (λ other. other ≡ failure) → Fails failure outcome → Gives view result outcome
  gives-failed view (Ok x) failure outcome is h = absurd is
  gives-failed view (Err other) failure outcome is h = rw is h

  -- a failure of the first step is one of all steps, as `?` hands it on
  pub fails-first : {A B : Type 0} (failure : Failure R) (first : Result A R) (next : A → Result B R) → Fails failure first
      → Fails failure (first >>= next)
  fails-first (Refused refusal) first next h = rw h refl
  fails-first OutOfMemory first next h = tt

  -- what the next step gives is what both give, where the first step's value is known
  pub gives-next : {A X Y : Type 0} (view : X → Y) (result : Result X (Failure R)) (a : A) (first : Result A R) (next : A → Result Y R) → first ≡ Ok a
      → Gives view result (next a) → Gives view result (first >>= next)
  gives-next view result a first next e h = rw e h

  -- two steps that were both done
  pub both_done : {A B : Type 0} (first : Result A R) (next : A → Result B R) (b : B) → (first >>= next) ≡ Ok b
      → (a : A) × ((first ≡ Ok a) × (next a ≡ Ok b))
  both_done (Ok a) next b e = (a, (refl, e))
  both_done (Err refusal) next b e = absurd (cc)

  -- the value with a function applied to it
  pub gives-map : {X Y Z : Type 0} (view : X → Y) (f : Y → Z) (result : Result X (Failure R)) (outcome : Result Y R) → Gives view result outcome
      → Gives (λ x. f (view x)) result (outcome >>= λ y. Ok (f y))
  gives-map view f (Ok x) outcome h = rw h refl
  gives-map view f (Err failure) outcome h = fails-first failure outcome (λ y. Ok (f y)) h

  -- another refusal in place of each
  pub fails-as : {S Y : Type 0} (refusal : S) (failure : Failure R) (outcome : Result Y R) → Fails failure outcome
      → Fails (refused_as refusal failure) (outcome_as refusal outcome)
  fails-as refusal (Refused other) outcome h = rw h refl
  fails-as refusal OutOfMemory outcome h = tt

  pub gives-as : {S X Y : Type 0} (refusal : S) (view : X → Y) (result : Result X (Failure R)) (outcome : Result Y R) → Gives view result outcome
      → Gives view (result_refused_as refusal result) (outcome_as refusal outcome)
  gives-as refusal view (Ok x) outcome h = rw h refl
  gives-as refusal view (Err failure) outcome h = fails-as refusal failure outcome h

  -- the steps done before, and those of a list that are left, as a loop over it has them
  abbrev pub with_front : {A : Type 0} → List A → Result (List A) R → Result (List A) R
  with_front front outcome = outcome >>= λ rest. Ok (front ++ rest)

  -- one step more was done
  pub with_front-cons : {A : Type 0} (front : List A) (x : A) (outcome : Result (List A) R)
      → with_front front (outcome >>= λ rest. Ok (x ∷ rest)) ≡ with_front (front ++ x ∷ []) outcome
  with_front-cons front x (Ok rest) = ap (λ xs. Ok xs) (simp append_assoc)
  with_front-cons front x (Err refusal) = refl
