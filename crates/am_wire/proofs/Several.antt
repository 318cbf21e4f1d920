-- Things that are read one after another, as a loop reads them.
use Rattle.std.proofs.Common.{◌≡◌, All, ℕ, suc, ◌-◌, ◌+◌, ◌≤◌, ◌<◌, List, [], ◌∷◌, ◌++◌, length, Option, Some, None, Ok, Err, refl, sym, ap, ◌∙◌, append_assoc, append-nil, arith, length-append, get_or}
use Rattle.std.specs.List.{flat_map, slice_get}
use Rattle.std.proofs.lemmas.Grind.{flat_map-append}
use Rattle.std.proofs.lemmas.List.Elements.{All-cons, All-nil}
use Rattle.std.proofs.lemmas.Option.{slice_get_read}
use Rattle.std.proofs.Math.Seq.{get_or-append_seam}
use Rattle.am_text.specs.declared.failure.Failure.{Failure}
use Rattle.am_text.specs.declared.failure.Failure.TheVariants.{Refused, OutOfMemory}
use Rattle.am_text.specs.Outcome.{Fails, ◌>>=◌}
use Rattle.am_wire.specs.declared.refusal.WireRefusal.{WireRefusal}
use Rattle.am_wire.specs.Fields.{Chain, Reading, last_of, several}

last_of-push : {A : Type 0} (xs : List A) (x : A) → last_of (xs ++ x ∷ []) ≡ Some x
last_of-push xs x =
    slice_get_read (xs ++ x ∷ []) (length (xs ++ x ∷ [])) (length (xs ++ x ∷ []) - 1) x refl (omega (arith, length-append xs (x ∷ [])))
    (sym (ap (λ (i : ℕ). get_or (xs ++ x ∷ []) i x) (omega (arith, length-append xs (x ∷ []))) ∙ get_or-append_seam xs x [] x))

module _ {A : Type 0} (one : Option A → List ℕ → Reading A) where
  -- what was read before, and what is still read
  abbrev pub with_front : List A → Reading (List A) → Reading (List A)
  with_front front reading = reading >>= λ others. Ok (front ++ others.0, others.1)

  regrouped : (front : List A) (x : A) (reading : Reading (List A)) →
      with_front front (reading >>= λ others. Ok (x ∷ others.0, others.1)) ≡ with_front (front ++ x ∷ []) reading
  regrouped front x (Ok others) = ap (λ (xs : List A). Ok (xs, others.1)) (simp append_assoc)
  regrouped front x (Err refusal) = refl

  -- what a loop has read, and what it reads from here, come to what all of it reads
  abbrev pub Goes : (count : ℕ) (bytes : List ℕ) (i : ℕ) (front : List A) (left : List ℕ) → Type 0
  Goes count bytes i front left = with_front front (several one (count - i) (last_of front) left) ≡ several one count None bytes

  pub goes_on : (count : ℕ) (bytes : List ℕ) (i : ℕ) (front : List A) (left : List ℕ) (x : A) (behind : List ℕ) → i < count →
      one (last_of front) left ≡ Ok (x, behind) → Goes count bytes i front left → Goes count bytes (i + 1) (front ++ x ∷ []) behind
  unfolding several
  goes_on count bytes i front left x behind lt h so_far =
      let k : count - i ≡ suc (count - (i + 1)) = omega arith in
      let here : with_front front (several one (count - i) (last_of front) left) ≡
      with_front (front ++ x ∷ []) (several one (count - (i + 1)) (Some x) behind) =
      rw (k, h) (regrouped front x (several one (count - (i + 1)) (Some x) behind)) in
      rw (last_of-push front x) (sym here ∙ so_far)

  pub fails : (count : ℕ) (bytes : List ℕ) (i : ℕ) (front : List A) (left : List ℕ) (failure : Failure WireRefusal) → i < count →
      Fails failure (one (last_of front) left) → Goes count bytes i front left → Fails failure (several one count None bytes)
  unfolding several
  fails count bytes i front left OutOfMemory lt h so_far = tt
  fails count bytes i front left (Refused refusal) lt h so_far =
      let k : count - i ≡ suc (count - (i + 1)) = omega arith in
      let here : with_front front (several one (count - i) (last_of front) left) ≡ Err refusal = rw (k, h) refl in
      sym so_far ∙ here

  pub goes_to_end : (count : ℕ) (bytes : List ℕ) (i : ℕ) (front : List A) (left : List ℕ) → count ≤ i → Goes count bytes i front left →
      several one count None bytes ≡ Ok (front, left)
  unfolding several
  goes_to_end count bytes i front left le so_far =
      let k : count - i ≡ 0 = omega arith in
      let here : with_front front (several one (count - i) (last_of front) left) ≡ Ok (front, left) =
      rw k (ap (λ (xs : List A). Ok (xs, left)) (append-nil front)) in
      sym so_far ∙ here

-- what stands before the thing that follows a list
behind_of : {A : Type 0} → Option A → List A → Option A
behind_of before [] = before
behind_of before (x ∷ xs) = behind_of (Some x) xs

behind_of-cons : {A : Type 0} (y : A) (xs : List A) → behind_of (Some y) xs ≡ last_of (y ∷ xs)
unfolding behind_of
behind_of-cons y [] = refl
behind_of-cons y (x ∷ xs) =
    let short : length (x ∷ xs) - 1 ≡ length xs = omega arith in
    let long : length (y ∷ x ∷ xs) - 1 ≡ suc (length xs) = omega arith in
    behind_of-cons x xs ∙ ap (slice_get (x ∷ xs)) short ∙ sym (ap (slice_get (y ∷ x ∷ xs)) long)

behind_of-last : {A : Type 0} (xs : List A) → behind_of None xs ≡ last_of xs
unfolding behind_of
behind_of-last [] = refl
behind_of-last (x ∷ xs) = behind_of-cons x xs

module _ {A : Type 0} (P : Option A → A → Type 0) where
  chain-more : (before : Option A) (xs : List A) (x : A) → Chain P before xs → P (behind_of before xs) x → Chain P before (xs ++ x ∷ [])
  unfolding behind_of
  chain-more before [] x chain p = (p, tt)
  chain-more before (y ∷ xs) x chain p = (chain.0, chain-more (Some y) xs x chain.1 p)

  -- one thing more
  chain-push : (xs : List A) (x : A) → Chain P None xs → P (last_of xs) x → Chain P None (xs ++ x ∷ [])
  chain-push xs x chain p = chain-more None xs x chain (rw (behind_of-last xs) p)

module _ {A : Type 0} (one : Option A → List ℕ → Reading A) (bytes_of : A → List ℕ) (P : Option A → A → Type 0) where
  -- what a loop has read so far
  pub record HasRead (count : ℕ) (bytes : List ℕ) (i : ℕ) (front : List A) (left : List ℕ) : Type 0 where
    pub goes : Goes one count bytes i front left
    pub found : bytes ≡ flat_map bytes_of front ++ left
    pub valid : Chain P None front
    pub long : length front ≡ i

  pub read_more : (count : ℕ) (bytes : List ℕ) (i : ℕ) (front : List A) (left : List ℕ) (x : A) (behind : List ℕ) → i < count →
      one (last_of front) left ≡ Ok (x, behind) → left ≡ bytes_of x ++ behind → P (last_of front) x →
      HasRead count bytes i front left → HasRead count bytes (i + 1) (front ++ x ∷ []) behind
  read_more count bytes i front left x behind lt read found p so_far = record {
    goes = goes_on one count bytes i front left x behind lt read so_far.goes;
    found = so_far.found
        ∙ ap (λ (rest : List ℕ). flat_map bytes_of front ++ rest) found
        ∙ sym (append_assoc (flat_map bytes_of front) (bytes_of x) behind)
        ∙ ap (λ (xs : List ℕ). xs ++ behind) (sym (flat_map-append bytes_of front (x ∷ []) ∙ ap (λ (xs : List ℕ). flat_map bytes_of front ++ xs) (append-nil (bytes_of x))));
    valid = chain-push P front x so_far.valid p;
    long = omega (arith, length-append front (x ∷ []), so_far.long);
  }

-- what holds of each thing, whatever stands before it
pub all_of_chain : {A : Type 0} (Q : A → Type 0) (before : Option A) (xs : List A) → Chain (λ _. Q) before xs → All Q xs
all_of_chain Q before [] chain = All-nil Q
all_of_chain Q before (x ∷ xs) chain = All-cons Q x xs chain.0 (all_of_chain Q (Some x) xs chain.1)
