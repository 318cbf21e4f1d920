-- How a list is cut, one item after the other; and that its pieces are the list.
use Rattle.std.proofs.Common.{◌≡◌, ℕ, ◌+◌, ◌-◌, ◌^◌, ◌<◌, ◌≤◌, Bool, true, false, ◌&&◌, ◌||◌, nat_lt, nat_le, ◌==◌, min, List, [], ◌∷◌, ◌++◌, length, take, drop, get_or, if◌then◌else◌, refl, sym, ap, ◌∙◌, append_assoc, append-nil, arith}
use Rattle.std.specs.List.{HoldsAt, flat_map, sum_by}
use Rattle.std.proofs.Common.{length-drop}
use Rattle.std.proofs.Math.Seq.{take-length}
use Rattle.std.proofs.lemmas.Bool.Decides.{nat_tests}
use Rattle.std.proofs.lemmas.List.{drop-append-le, drop-take, length-take, take_more}
use Rattle.std.proofs.lemmas.List.Concat.{flat_map-append}
use Rattle.std.proofs.lemmas.List.Sums.{fold_more, fold_push}
use Rattle.am_item.specs.Lengths.{spelled_length}
use Rattle.am_item.specs.declared.item.Item.{Item}
use Rattle.am_wire.proofs.Counted.{item_spelled}
use Rattle.am_transfer.specs.Pieces.{Cutting, Piece, all_cut, cut, cut_with, piece_of, size_of, takes}

abbrev pub nothing_cut : Cutting
nothing_cut = record { done = []; place = 0; items = [] }

abbrev pub cut_to : (done : List Piece) (place : ℕ) (items : List Item) → Cutting
cut_to done place items = record { done = done; place = place; items = items }

abbrev items_of : Piece → List Item
items_of p = p.items

-- what was cut so far
abbrev so_far : Cutting → List Item
so_far c = flat_map items_of c.done ++ c.items

with_one : (t : Bool) (c : Cutting) (item : Item)
    → so_far (if t then record c { items = c.items ++ item ∷ [] }
    else record { done = c.done ++ piece_of false c ∷ []; place = c.place + length c.items; items = item ∷ [] })
    ≡ so_far c ++ item ∷ []
with_one true c item = sym (append_assoc (flat_map items_of c.done) c.items (item ∷ []))
with_one false c item =
    ap (λ (l : List Item). l ++ item ∷ []) (flat_map-append items_of c.done (piece_of false c ∷ [])
    ∙ ap (λ (l : List Item). flat_map items_of c.done ++ l) (append-nil c.items))

all_so_far : (c : Cutting) (items : List Item) → so_far (all_cut c items) ≡ so_far c ++ items
all_so_far c [] = sym (append-nil (so_far c))
all_so_far c (item ∷ more) =
    all_so_far (cut_with c item) more
    ∙ ap (λ (l : List Item). l ++ more) (with_one (takes c.items item) c item)
    ∙ append_assoc (so_far c) (item ∷ []) more

pub pieces_are_list : (items : List Item) → flat_map (λ (p : Piece). p.items) (cut items) ≡ items
unfolding cut
pieces_are_list items =
    let c : Cutting = all_cut nothing_cut items in
    flat_map-append items_of c.done (piece_of true c ∷ [])
    ∙ ap (λ (l : List Item). flat_map items_of c.done ++ l) (append-nil c.items)
    ∙ all_so_far nothing_cut items

-- ---- the list that is being cut, by its places

-- the items from one place to another
abbrev pub between : (from to : ℕ) → List Item → List Item
between from to xs = take (to - from) (drop from xs)

length_between : (from to : ℕ) (xs : List Item) → from ≤ to → to ≤ length xs → length (between from to xs) ≡ to - from
length_between from to xs le low = omega (arith, length-take (to - from) (drop from xs), length-drop from xs)

between_next : (from i : ℕ) (xs : List Item) (x : Item) → from ≤ i → i < length xs → x ≡ get_or xs i x → between from (i + 1) xs ≡ between from i xs ++ x ∷ []
between_next from i xs x le low at =
    let k : from + (i - from) ≡ i = omega arith in
    let suc_k : from + ((i + 1) - from) ≡ i + 1 = omega arith in
    let long : from ≤ length (take i xs) = omega (arith, length-take i xs) in
    sym (drop-take from ((i + 1) - from) xs)
    ∙ ap (λ n. drop from (take n xs)) suc_k
    ∙ ap (drop from) (take_more xs i x low ∙ ap (λ y. take i xs ++ y ∷ []) (sym at))
    ∙ drop-append-le from (take i xs) (x ∷ []) long
    ∙ ap (λ ys. ys ++ x ∷ []) (ap (λ n. drop from (take n xs)) (sym k) ∙ drop-take from (i - from) xs)

pub between_none : (i : ℕ) (xs : List Item) → between i i xs ≡ []
between_none i xs = ap (λ n. take n (drop i xs)) (let z : i - i ≡ 0 = omega arith in z)

-- as far as a list was cut before a place
pub record IsCutTo (xs : List Item) (i : ℕ) (done : List Piece) (start counted : ℕ) : Type 0 where
  pub cut : all_cut nothing_cut (take i xs) ≡ cut_to done start (between start i xs)
  pub low : start ≤ i
  pub bytes : counted ≡ min (sum_by size_of (between start i xs)) (2 ^ 64 - 1)

pub cut_none : (xs : List Item) → IsCutTo xs 0 [] 0 0
cut_none xs = record { cut = refl; low = omega arith; bytes = refl }

-- the size of the item at a place
pub size_at : (xs : List Item) (i size : ℕ) (x : Item) → x ≡ get_or xs i x → HoldsAt (λ (item : Item). size ≡ min (spelled_length item) (2 ^ 64 - 1)) xs i
    → size ≡ min (size_of x) (2 ^ 64 - 1)
size_at xs i size x at known =
    known x ∙ ap (λ (y : Item). min (spelled_length y) (2 ^ 64 - 1)) (sym at) ∙ ap (λ n. min n (2 ^ 64 - 1)) (sym (item_spelled x))

small : (s z : ℕ) → nat_le (min (min s (2 ^ 64 - 1) + min z (2 ^ 64 - 1)) (2 ^ 64 - 1)) (2 ^ 16) ≡ nat_le (s + z) (2 ^ 16)
small s z = grind (arith, nat_tests)

-- a piece has room where it takes the item
pub room_is : (xs : List Item) (i : ℕ) (done : List Piece) (start bytes size : ℕ) (x : Item) → i ≤ length xs → IsCutTo xs i done start bytes → size ≡ min (size_of x) (2 ^ 64 - 1)
    → ((i - start) == 0 || (nat_lt (i - start) 64 && nat_le (min (bytes + size) (2 ^ 64 - 1)) (2 ^ 16))) ≡ takes (between start i xs) x
room_is xs i done start bytes size x le c is =
    let count : i - start ≡ length (between start i xs) = sym (length_between start i xs c.low le) in
    ap (λ n. n == 0 || (nat_lt n 64 && nat_le (min (bytes + size) (2 ^ 64 - 1)) (2 ^ 16))) count
    ∙ ap (λ t. length (between start i xs) == 0 || (nat_lt (length (between start i xs)) 64 && t))
    (ap (λ b. nat_le (min (b + size) (2 ^ 64 - 1)) (2 ^ 16)) c.bytes
    ∙ ap (λ z. nat_le (min (min (sum_by size_of (between start i xs)) (2 ^ 64 - 1) + z) (2 ^ 64 - 1)) (2 ^ 16)) is
    ∙ small (sum_by size_of (between start i xs)) (size_of x))

one_more : (xs : List Item) (i : ℕ) (done : List Piece) (start : ℕ) (x : Item) → i < length xs → x ≡ get_or xs i x
    → all_cut nothing_cut (take i xs) ≡ cut_to done start (between start i xs)
    → all_cut nothing_cut (take (i + 1) xs) ≡ cut_with (cut_to done start (between start i xs)) x
one_more xs i done start x low at c =
    fold_more cut_with nothing_cut xs i x low ∙ ap (λ y. cut_with (all_cut nothing_cut (take i xs)) y) (sym at) ∙ ap (λ k. cut_with k x) c

capped : (s z : ℕ) → min (min s (2 ^ 64 - 1) + min z (2 ^ 64 - 1)) (2 ^ 64 - 1) ≡ min (s + z) (2 ^ 64 - 1)
capped s z = omega arith

sum_one : (x : Item) → sum_by size_of (x ∷ []) ≡ size_of x
sum_one x = omega arith

-- the item goes into the piece ..
pub cut_in : (xs : List Item) (i : ℕ) (done : List Piece) (start bytes size : ℕ) (x : Item) → i < length xs → x ≡ get_or xs i x → IsCutTo xs i done start bytes
    → size ≡ min (size_of x) (2 ^ 64 - 1) → takes (between start i xs) x ≡ true → IsCutTo xs (i + 1) done start (min (bytes + size) (2 ^ 64 - 1))
cut_in xs i done start bytes size x low at c is t =
    let next = between_next start i xs x c.low low at in
    record {
      cut = one_more xs i done start x low at c.cut
          ∙ ap (λ b. if b then cut_to done start (between start i xs ++ x ∷ [])
          else cut_to (done ++ piece_of false (cut_to done start (between start i xs)) ∷ []) (start + length (between start i xs)) (x ∷ [])) t
          ∙ ap (cut_to done start) (sym next);
      low = let le : start ≤ i = c.low in omega arith;
      bytes = ap (λ b. min (b + size) (2 ^ 64 - 1)) c.bytes ∙ ap (λ z. min (min (sum_by size_of (between start i xs)) (2 ^ 64 - 1) + z) (2 ^ 64 - 1)) is
          ∙ capped (sum_by size_of (between start i xs)) (size_of x)
          ∙ ap (λ n. min n (2 ^ 64 - 1)) (sym (fold_push (λ a y. a + size_of y) 0 (between start i xs) x) ∙ ap (sum_by size_of) (sym next));
    }

-- .. or begins the next one
pub cut_anew : (xs : List Item) (i : ℕ) (done : List Piece) (start bytes size : ℕ) (x : Item) → i < length xs → x ≡ get_or xs i x → IsCutTo xs i done start bytes
    → size ≡ min (size_of x) (2 ^ 64 - 1) → takes (between start i xs) x ≡ false
    → IsCutTo xs (i + 1) (done ++ piece_of false (cut_to done start (between start i xs)) ∷ []) i size
cut_anew xs i done start bytes size x low at c is t =
    let le : start ≤ i = c.low in
    let from : i ≤ i = omega arith in
    let whole : List Piece = done ++ piece_of false (cut_to done start (between start i xs)) ∷ [] in
    let next : between i (i + 1) xs ≡ x ∷ [] = between_next i i xs x from low at ∙ ap (λ ys. ys ++ x ∷ []) (between_none i xs) in
    let upto : i ≤ length xs = omega arith in
    let place : start + length (between start i xs) ≡ i = omega (arith, length_between start i xs le upto) in
    record {
      cut = one_more xs i done start x low at c.cut
          ∙ ap (λ b. if b then cut_to done start (between start i xs ++ x ∷ []) else cut_to whole (start + length (between start i xs)) (x ∷ [])) t
          ∙ ap (λ n. cut_to whole n (x ∷ [])) place ∙ ap (cut_to whole i) (sym next);
      low = omega arith;
      bytes = is ∙ ap (λ n. min n (2 ^ 64 - 1)) (sym (ap (sum_by size_of) next ∙ sum_one x));
    }

-- where all was looked at, the last piece is what is left
pub cut_all : (xs : List Item) (i : ℕ) (done : List Piece) (start counted : ℕ) → i ≡ length xs → IsCutTo xs i done start counted
    → done ++ record { place = start; is_last = true; items = between start (length xs) xs } ∷ [] ≡ cut xs
unfolding cut
cut_all xs i done start counted at c =
    let whole : all_cut nothing_cut xs ≡ cut_to done start (between start (length xs) xs) =
    ap (all_cut nothing_cut) (sym (ap (λ n. take n xs) at ∙ take-length xs)) ∙ c.cut ∙ ap (λ n. cut_to done start (between start n xs)) at in
    sym (ap (λ (k : Cutting). k.done ++ piece_of true k ∷ []) whole)
