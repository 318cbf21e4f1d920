-- Rows without silences that are dropped.
use Rattle.std.proofs.Common.{◌≡◌, inl, inr, ℕ, Bool, true, false, not, ◌&&◌, ◌||◌, List, [], ◌∷◌, ◌++◌, filter, refl, sym, ap, ◌∙◌, if◌then◌else◌}
use Rattle.std.proofs.lemmas.Bool.{cases_Bool}
use Rattle.am_item.specs.Key.{Key, SilenceKey, has_key}
use Rattle.am_item.specs.declared.item.Item.{Item}
use Rattle.am_rows.specs.Rows.{is_among, without_key, without_silences}
use Rattle.am_tenant.specs.Names.{same}

abbrev Silences : Type 0
Silences = List (List ℕ × List ℕ)

-- what passes neither of two tests passes not the one, and of these not the other
filter_or : (a b : Item → Bool) (xs : List Item) → filter (λ x. not (a x || b x)) xs ≡ filter (λ x. not (b x)) (filter (λ x. not (a x)) xs)
filter_or a b [] = refl
filter_or a b (x ∷ xs) = elim (cases_Bool (a x)) [
  | inl first ↦ rw first (filter_or a b xs)
  | inr one ↦ elim (cases_Bool (b x)) [
    | inl other ↦ rw (one, other) (filter_or a b xs)
    | inr neither ↦ rw (one, neither) (ap (λ ys. x ∷ ys) (filter_or a b xs))
  ]
]

all_left : (xs : List Item) → filter (λ x. true) xs ≡ xs
all_left [] = refl
all_left (x ∷ xs) = ap (λ ys. x ∷ ys) (all_left xs)

-- a tenant's silence goes from its own rows alone
own_gone : (own : Bool) (key : Key) (xs : List Item) → filter (λ item. not (own && has_key key item)) xs ≡ (if own then without_key key xs else xs)
own_gone true key xs = refl
own_gone false key xs = all_left xs

pub none_gone : (t : List ℕ) (rows : List Item) → without_silences [] t rows ≡ rows
none_gone t rows = all_left rows

-- the first of them, and then the others
pub first_gone : (s : List ℕ × List ℕ) (ss : Silences) (t : List ℕ) (rows : List Item)
    → without_silences (s ∷ ss) t rows ≡ without_silences ss t (if same t s.0 then without_key (SilenceKey s.1) rows else rows)
first_gone s ss t rows =
    filter_or (λ item. same t s.0 && has_key (SilenceKey s.1) item) (is_among t ss) rows
    ∙ ap (without_silences ss t) (own_gone (same t s.0) (SilenceKey s.1) rows)

-- .. and the last one after them
pub last_gone : (ss : Silences) (s : List ℕ × List ℕ) (t : List ℕ) (rows : List Item)
    → without_silences (ss ++ s ∷ []) t rows ≡ (if same t s.0 then without_key (SilenceKey s.1) (without_silences ss t rows) else without_silences ss t rows)
last_gone [] s t rows =
    first_gone s [] t rows ∙ none_gone t _ ∙ ap (λ xs. if same t s.0 then without_key (SilenceKey s.1) xs else xs) (sym (none_gone t rows))
last_gone (r ∷ ss) s t rows =
    first_gone r (ss ++ s ∷ []) t rows ∙ last_gone ss s t _
    ∙ ap (λ xs. if same t s.0 then without_key (SilenceKey s.1) xs else xs) (sym (first_gone r ss t rows))
