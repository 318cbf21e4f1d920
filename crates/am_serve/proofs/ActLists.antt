-- What is asked of a socket in two parts, one after the other.
use Rattle.std.proofs.Common.{◌≡◌, ◌≢◌, ℕ, zero, suc, ◌≤◌, Bool, true, false, ◌||◌, List, [], ◌∷◌, ◌++◌, length, take, Some, None, refl, sym, ap, ◌∙◌, subst, append_assoc, append-nil, arith}
use Rattle.std.specs.List.{FoldsTo}
use Rattle.am_serve.specs.Acts.{Act, Read, Write, Finish, Ask, AllGoOn, Connects, EndsWith, goes_on, has_byte, moves_byte, moves_in, read_by, read_in, written_by, written_in}

pub FoldsTo-append : {P A : Type 0} (R : P → A → P → Type 0) (p : P) (xs : List A) (q : P) (ys : List A) (r : P) → FoldsTo R p xs q → FoldsTo R q ys r → FoldsTo R p (xs ++ ys) r
FoldsTo-append R p [] q ys r h k = subst (λ o. FoldsTo R o ys r) (sym h) k
FoldsTo-append R p (x ∷ xs) q ys r h k = (h.0, h.1, FoldsTo-append R h.0 xs q ys r h.2 k)

pub read_in-append : (xs ys : List Act) → read_in (xs ++ ys) ≡ read_in xs ++ read_in ys
read_in-append [] ys = refl
read_in-append (x ∷ xs) ys = ap (λ l. read_by x ++ l) (read_in-append xs ys) ∙ sym (append_assoc (read_by x) (read_in xs) (read_in ys))

pub written_in-append : (xs ys : List Act) → written_in (xs ++ ys) ≡ written_in xs ++ written_in ys
written_in-append [] ys = refl
written_in-append (x ∷ xs) ys = ap (λ l. written_by x ++ l) (written_in-append xs ys) ∙ sym (append_assoc (written_by x) (written_in xs) (written_in ys))

or_assoc : (a b c : Bool) → (a || (b || c)) ≡ ((a || b) || c)
or_assoc true b c = refl
or_assoc false b c = refl

pub moves_in-append : (xs ys : List Act) → moves_in (xs ++ ys) ≡ (moves_in xs || moves_in ys)
moves_in-append [] ys = refl
moves_in-append (x ∷ xs) ys = ap (λ b. moves_byte x || b) (moves_in-append xs ys) ∙ or_assoc (moves_byte x) (moves_in xs) (moves_in ys)

AllGoOn-append : (xs ys : List Act) → AllGoOn xs → AllGoOn ys → AllGoOn (xs ++ ys)
AllGoOn-append [] ys h k = k
AllGoOn-append (x ∷ xs) ys h k = (h.0, AllGoOn-append xs ys h.1 k)

pub EndsWith-append : (last xs ys : List Act) → EndsWith [] xs → EndsWith last ys → EndsWith last (xs ++ ys)
EndsWith-append last xs ys p q = record {
  before = p.before ++ q.before;
  goes = AllGoOn-append p.before q.before p.goes q.goes;
  all = ap (λ l. l ++ ys) (p.all ∙ append-nil p.before) ∙ ap (λ l. p.before ++ l) q.all ∙ sym (append_assoc p.before q.before last);
}

pub Connects-append : (a b c : Bool) (xs ys : List Act) → Connects a xs b → Connects b ys c → Connects a (xs ++ ys) c
Connects-append a b c [] ys h k = subst (λ s. Connects s ys c) h k
Connects-append a b c (Ask (Some stands) ∷ xs) ys h k = (h.0, Connects-append stands b c xs ys h.1 k)
Connects-append a b c (Ask None ∷ xs) ys h k = (h.0, Connects-append a b c xs ys h.1 k)
Connects-append a b c (Read _ _ ∷ xs) ys h k = (h.0, Connects-append a b c xs ys h.1 k)
Connects-append a b c (Write _ _ ∷ xs) ys h k = (h.0, Connects-append a b c xs ys h.1 k)
Connects-append a b c (Finish ∷ xs) ys h k = (h.0, Connects-append a b c xs ys h.1 k)

-- nothing was asked
pub nothing : EndsWith [] []
nothing = record { before = []; goes = tt; all = refl }

-- one thing was asked, after which more may be asked
pub goes : (act : Act) → goes_on act ≡ true → EndsWith [] (act ∷ [])
goes act h = record { before = act ∷ []; goes = (h, tt); all = refl }

-- one thing was asked, for which the turn ended
pub stops : (last : List Act) (act : Act) → last ≡ act ∷ [] → EndsWith last (act ∷ [])
stops last act h = record { before = []; goes = tt; all = sym h }

pub some_byte : (n : ℕ) (xs : List ℕ) → n ≢ 0 → n ≤ length xs → has_byte (take n xs) ≡ true
some_byte zero xs h k = absurd (h refl)
some_byte (suc n) [] h k = absurd (omega (arith, k))
some_byte (suc n) (x ∷ xs) h k = refl
