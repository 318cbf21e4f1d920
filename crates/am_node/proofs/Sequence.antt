-- One thing after the other.
use Rattle.std.proofs.Common.{◌≡◌, ◌∙◌, Bool, true, false, ◌&&◌, List, [], ◌∷◌, ◌++◌, refl, sym}
use Rattle.std.proofs.Math.Bool.{and_assoc}
use Rattle.std.proofs.lemmas.List.{append_assoc, append-nil}
use Rattle.am_node.specs.Local.{Local, Reaction, Said, each, in_turn}

-- what comes of parts
abbrev pub reaction_of : Local → List Said → Bool → Reaction
reaction_of local said fits = record { local = local; said = said; fits = fits }

pub and_true : (b : Bool) → (b && true) ≡ b
and_true true = refl
and_true false = refl

pub each_append : {A : Type 0} (f : A → Local → Reaction) (xs ys : List A) (l : Local) → each f (xs ++ ys) l ≡ in_turn (each f xs l) (each f ys)
each_append f [] ys l = refl
each_append f (x ∷ xs) ys l =
    rw (
      each_append f xs ys (f x l).local,
      sym (append_assoc (f x l).said (each f xs (f x l).local).said (each f ys (each f xs (f x l).local).local).said),
      sym (and_assoc (f x l).fits (each f xs (f x l).local).fits (each f ys (each f xs (f x l).local).local).fits),
    ) refl

-- one more at the end
pub each_more : {A : Type 0} (f : A → Local → Reaction) (xs : List A) (x : A) (l : Local) → each f (xs ++ x ∷ []) l ≡ in_turn (each f xs l) (f x)
each_more f xs x l =
    each_append f xs (x ∷ []) l ∙ rw (append-nil (f x (each f xs l).local).said, and_true (f x (each f xs l).local).fits) refl

-- where one of several makes a count pass the greatest, all of them do
pub past_among : {A : Type 0} (f : A → Local → Reaction) (xs : List A) (x : A) (ys : List A) (l : Local) →
    (f x (each f xs l).local).fits ≡ false → (each f (xs ++ x ∷ ys) l).fits ≡ false
past_among f xs x ys l past = rw (each_append f xs (x ∷ ys) l, past) (and_false (each f xs l).fits)
  where
    and_false : (b : Bool) → (b && false) ≡ false
    and_false true = refl
    and_false false = refl
