-- What a reader that is cut at its line ends has left.
use Rattle.std.proofs.Common.{◌≡◌, ℕ, suc, ◌-◌, ◌<◌, Bool, true, false, cond, eqb, ltb, ◌&&◌, List, [], ◌∷◌, length, take, get_or, Option, None, Some, IfSome, option_map, refl, sym, ap, ◌∙◌, arith}
use Rattle.std.specs.List.{onto_first}
use Rattle.std.specs.Io.BufRead.{take_through, drop_through, strip_last, first_piece, DropsThrough}
use Rattle.std.proofs.lemmas.Bool.Decides.{nat_tests}
use Rattle.am_stream.specs.Lines.{pieces_of}
use Rattle.am_stream.specs.Streams.{GivesLine}

-- a list that isn't empty, without its last byte where that is a line end
strip_last-last : (byte : ℕ) (t : List ℕ) (n : ℕ) → length t ≡ suc n →
    strip_last byte t ≡ cond (eqb (get_or t n 0) byte) (take n t) t
strip_last-last byte t n e =
    let some : ltb 0 (length t) ≡ true = grind (arith, nat_tests) in
    let last : length t - 1 ≡ n = omega arith in
    ap (λ b. cond (b && eqb (get_or t (length t - 1) 0) byte) (take (length t - 1) t) t) some
    ∙ ap (λ k. cond (eqb (get_or t k 0) byte) (take k t) t) last

-- the last byte of a longer list is that of its rest
strip_last-cons : (byte x : ℕ) (t : List ℕ) → eqb x byte ≡ false → strip_last byte (x ∷ t) ≡ x ∷ strip_last byte t
strip_last-cons byte x [] e = strip_last-last byte (x ∷ []) 0 refl ∙ ap (λ b. cond b [] (x ∷ [])) e
strip_last-cons byte x (y ∷ ys) e =
    strip_last-last byte (x ∷ y ∷ ys) (suc (length ys)) refl ∙ by (eqb (get_or (y ∷ ys) (length ys) 0) byte)
    ∙ sym (ap (λ s. x ∷ s) (strip_last-last byte (y ∷ ys) (length ys) refl))
  where
    by : (b : Bool) → cond b (x ∷ take (length ys) (y ∷ ys)) (x ∷ y ∷ ys) ≡ x ∷ cond b (take (length ys) (y ∷ ys))
        (y ∷ ys)
    by true = refl
    by false = refl

-- the pieces are the first one and those behind it, where this holds of a longer first one
pieces_by : (byte x : ℕ) (xs : List ℕ) →
    onto_first x (pieces_of byte xs) ≡ (x ∷ first_piece byte xs) ∷ pieces_of byte (drop_through byte xs) →
    pieces_of byte (x ∷ xs) ≡ first_piece byte (x ∷ xs) ∷ pieces_of byte (drop_through byte (x ∷ xs))
pieces_by byte x xs longer = by (eqb x byte) refl
  where
    by : (b : Bool) → eqb x byte ≡ b →
        cond b ([] ∷ pieces_of byte xs) (onto_first x (pieces_of byte xs))
        ≡ strip_last byte (cond b (x ∷ []) (x ∷ take_through byte xs))
        ∷ pieces_of byte (cond b xs (drop_through byte xs))
    by true e = ap (λ p. p ∷ pieces_of byte xs)
        (sym (strip_last-last byte (x ∷ []) 0 refl ∙ ap (λ b. cond b [] (x ∷ [])) e))
    by false e = longer ∙ ap (λ p. p ∷ pieces_of byte (drop_through byte xs))
        (sym (strip_last-cons byte x (take_through byte xs) e))

pieces_of-next : (byte x : ℕ) (xs : List ℕ) →
    pieces_of byte (x ∷ xs) ≡ first_piece byte (x ∷ xs) ∷ pieces_of byte (drop_through byte (x ∷ xs))
pieces_of-next byte x [] = pieces_by byte x [] refl
pieces_of-next byte x (y ∷ ys) = pieces_by byte x (y ∷ ys) (ap (onto_first x) (pieces_of-next byte y ys))

-- a reader gave its first piece
pub gives_piece : (byte : ℕ) (old new : Option (List ℕ)) (piece : List ℕ) →
    IfSome old (λ xs. (0 < length xs) × (piece ≡ first_piece byte xs)) → DropsThrough old new byte →
    GivesLine (option_map (pieces_of byte) old) (Some piece) (option_map (pieces_of byte) new)
gives_piece byte None new piece first drops = tt
gives_piece byte (Some []) new piece first drops = let none : 0 < 0 = first.0 in absurd (omega arith)
gives_piece byte (Some (x ∷ xs)) new piece first drops = rw (drops, first.1) (pieces_of-next byte x xs)
