-- The length in front of a message.
use Rattle.std.proofs.Common.{◌≡◌, ℕ, ◌+◌, ◌<◌, ◌≤◌, ◌^◌, List, [], ◌++◌, length, take, drop, ap, ◌∙◌, append-nil, length-append, arith}
use Rattle.std.proofs.lemmas.List.{drop_all, drop_at, take_all}
use Rattle.byteorder.specs.Numbers.{length-bytes_high_first}
use Rattle.am_wire.specs.Fields.{number_bytes}
use Rattle.am_wire.specs.Messages.{inside, spelling}
use Rattle.am_wire.specs.declared.message.Message.{Message}

pub length-number_bytes : (n x : ℕ) → length (number_bytes n x) ≡ n
unfolding number_bytes
length-number_bytes n x = length-bytes_high_first n x

-- whatever length stands in front
pub length-framed : (n : ℕ) (framed : List ℕ) → length (number_bytes 4 n ++ framed) ≡ 4 + length framed
length-framed n framed = omega (arith, length-append (number_bytes 4 n) framed, length-number_bytes 4 n)

pub length-spelling : (m : Message) → length (spelling m) ≡ 4 + length (inside m)
unfolding spelling
length-spelling m = length-framed (length (inside m)) (inside m)

-- what was written, one after the other
pub both_written : (m : Message) (none front items : List ℕ) → none ≡ [] → front ≡ none ++ number_bytes 4 0 → items ≡ front ++ inside m →
    items ≡ number_bytes 4 0 ++ inside m
both_written m none front items empty first second =
    second ∙ ap (λ (xs : List ℕ). xs ++ inside m) (first ∙ ap (λ (xs : List ℕ). xs ++ number_bytes 4 0) empty)

module _ (m : Message) (items : List ℕ) (written : items ≡ number_bytes 4 0 ++ inside m) where
  -- what was written before the length is known has the length of the spelling
  pub length-written : length items ≡ 4 + length (inside m)
  length-written = ap length written ∙ length-framed 0 (inside m)

  pub too_long : (n : ℕ) → n ≡ length items → (n < 2 ^ 32 → ⊥) → 2 ^ 32 ≤ length (spelling m)
  too_long n is long = omega (arith, length-written, length-spelling m, is, long)

  -- the length was written over the front
  pub patched : (buffer result : List ℕ) (k len : ℕ) → len ≡ length items → k ≡ length (inside m) → buffer ≡ number_bytes 4 k ++ drop 4 items →
      result ≡ take len (buffer ++ drop (length buffer) items) → result ≡ spelling m
  unfolding spelling
  patched buffer result k len len_is k_is buffer_is result_is =
      let rest : drop 4 items ≡ inside m = ap (drop 4) written ∙ drop_at (number_bytes 4 0) (inside m) 4 (length-number_bytes 4 0) in
      let whole : buffer ≡ number_bytes 4 (length (inside m)) ++ inside m =
      buffer_is ∙ ap (λ (n : ℕ). number_bytes 4 n ++ drop 4 items) k_is ∙ ap (λ (xs : List ℕ). number_bytes 4 (length (inside m)) ++ xs) rest in
      let long : length buffer ≡ 4 + length (inside m) = ap length whole ∙ length-framed (length (inside m)) (inside m) in
      let none : drop (length buffer) items ≡ [] = drop_all (length buffer) items (omega (arith, long, length-written)) in
      result_is ∙ ap (λ (xs : List ℕ). take len (buffer ++ xs)) none ∙ ap (take len) (append-nil buffer)
      ∙ take_all len buffer (omega (arith, long, length-written, len_is)) ∙ whole
