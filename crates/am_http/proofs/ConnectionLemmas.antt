-- The connections of a front, as the map by their names says it.
use Rattle.std.proofs.Common.{◌≡◌, ℕ, Bool, true, false, List, [], ◌∷◌, Option, Some, None, refl, ap, sym, ◌∙◌, arith, ◌==◌, cond, if◌then◌else◌}
use Rattle.std.specs.Ordering.{nat_cmp, is_eq}
use Rattle.std.specs.Map.{lookup}
use Rattle.std.proofs.lemmas.Bool.Decides.{nat_tests}
use Rattle.am_http.specs.declared.request.Fed.{Fed}
use Rattle.am_http.specs.declared.request.Fed.TheVariants as fed
use Rattle.am_http.specs.Connections.{bytes_of, left_open}

-- two numbers compare as equal where they are
same_number : (a b : ℕ) → is_eq (nat_cmp a b) ≡ (a == b)
same_number a b = grind (arith, nat_tests)

same_number_back : (a b : ℕ) → is_eq (nat_cmp a b) ≡ (b == a)
same_number_back a b = grind (arith, nat_tests)

-- what the map has at a connection
abbrev pub found : ℕ → List (ℕ × List ℕ) → Option (List ℕ)
found c entries = lookup (λ k. is_eq (nat_cmp c k)) entries

pub found-bytes_of : (c : ℕ) (entries : List (ℕ × List ℕ)) → found c entries ≡ bytes_of c entries
unfolding bytes_of
found-bytes_of c [] = refl
found-bytes_of c (e ∷ entries) = rw (same_number c e.0, found-bytes_of c entries) refl

-- one connection is set, or taken out
pub bytes_of-updated : (k : ℕ) (w : Option (List ℕ)) (old new : List (ℕ × List ℕ))
    → ((q : ℕ) → found q new ≡ cond (is_eq (nat_cmp k q)) w (found q old))
    → (c : ℕ) → bytes_of c new ≡ (if c == k then w else bytes_of c old)
bytes_of-updated k w old new updates c =
    sym (found-bytes_of c new) ∙ updates c ∙ ap (λ (b : Bool). cond b w (found c old)) (same_number_back k c)
    ∙ ap (λ (o : Option (List ℕ)). cond (c == k) w o) (found-bytes_of c old)

set_again : {A : Type 0} (b : Bool) (x y z : A) → cond b x (cond b y z) ≡ cond b x z
set_again true x y z = refl
set_again false x y z = refl

-- one connection is set, and then taken out
pub bytes_of-closed : (k : ℕ) (v : List ℕ) (old mid new : List (ℕ × List ℕ))
    → ((q : ℕ) → found q mid ≡ cond (is_eq (nat_cmp k q)) (Some v) (found q old))
    → ((q : ℕ) → bytes_of q new ≡ (if q == k then None else bytes_of q mid))
    → (c : ℕ) → bytes_of c new ≡ (if c == k then None else bytes_of c old)
bytes_of-closed k v old mid new set closed c =
    closed c ∙ ap (λ (o : Option (List ℕ)). cond (c == k) None o) (bytes_of-updated k (Some v) old mid set c)
    ∙ set_again (c == k) None (Some v) (bytes_of c old)

-- a decided connection is no longer read
pub left_open-decided : (f : Fed) (bytes : List ℕ) → (f ≡ fed.Waits → ⊥) → left_open f bytes ≡ None
left_open-decided fed.Waits bytes decided = absurd (decided refl)
left_open-decided (fed.Refused refusal) bytes decided = refl
left_open-decided fed.Ready bytes decided = refl
left_open-decided (fed.Request request) bytes decided = refl
