-- The rows of several tenants are dropped, one after the other.
use Rattle.std.proofs.Common.{◌≡◌, ◌∙◌, ◌⊎◌, ℕ, zero, suc, Bool, true, false, ◌||◌, List, [], ◌∷◌, ◌++◌, take, inl}
use Rattle.std.proofs.Common.{inr, ap, refl, sym}
use Rattle.std.proofs.Common.{Option, Some, None, OnOk, Result, Ok, Err, subst, if◌then◌else◌}
use Rattle.std.proofs.lemmas.Bool.{cases_Bool, false≢true}
use Rattle.std.proofs.lemmas.List.Folds.{list_any-append}
use Rattle.am_cluster.specs.Local.{Local}
use Rattle.am_item.specs.declared.fault.Fault.{Fault}
use Rattle.am_item.specs.declared.fault.Fault.TheVariants.{OutOfMemory, CountsExhausted, PatternNotBuilt, StoreRefused}
use Rattle.am_item.specs.declared.item.Item.{Item}
use Rattle.am_replica.specs.Storing.{StopsStoring, fault_in}
use Rattle.am_rows.specs.Rows.{Keeps, Makes, no_rows, rows_of, stored_in}
use Rattle.am_tenant.specs.Names.{same}
use Rattle.am_instance.specs.Changing.{StopsLeaving, rows_held}
use Rattle.am_instance.specs.Leaving.{LeavesEach, LeavesNoneOf, no_rows_of}
use Rattle.am_instance.specs.Shelves.{Shelf}
use Rattle.am_instance.specs.Tenants.{AreAllNoted, AreNoted, is_noted}
use Rattle.am_instance.specs.declared.instance.Instance.{Instance}
use Rattle.am_instance.proofs.Noting.{some_noted}

abbrev Pairs : Type 0
Pairs = List (List ℕ × Item)

-- none where they were dropped
abbrev gone : Bool → List Item → List Item
gone b rows = if b then [] else rows

pub more_dropped : (tenant : List ℕ) (some : List (List ℕ)) (old mid new : Pairs)
    → ((t : List ℕ) → rows_of t mid ≡ gone (is_noted t some) (rows_of t old)) → Makes tenant no_rows mid new
    → (t : List ℕ) → rows_of t new ≡ gone (is_noted t (some ++ tenant ∷ [])) (rows_of t old)
more_dropped tenant some old mid new so_far one t =
    one t ∙ ap (λ rows. gone (same t tenant) rows) (so_far t) ∙ either (same t tenant) (is_noted t some) (rows_of t old)
    ∙ ap (λ b. gone b (rows_of t old)) (sym (list_any-append (same t) some (tenant ∷ [])))
  where
    either : (a b : Bool) (rows : List Item) → gone a (gone b rows) ≡ gone (b || (a || false)) rows
    either true true rows = refl
    either true false rows = refl
    either false true rows = refl
    either false false rows = refl

-- where one couldn't be dropped
pub kept_before : (names : List (List ℕ)) (i : ℕ) (old mid new : Pairs)
    → ((t : List ℕ) → rows_of t mid ≡ gone (is_noted t (take i names)) (rows_of t old)) → Keeps mid new
    → (t : List ℕ) → (rows_of t new ≡ rows_of t old) ⊎ (rows_of t new ≡ gone (is_noted t names) (rows_of t old))
kept_before names i old mid new so_far keeps t = by (is_noted t (take i names)) refl (keeps t ∙ so_far t)
  where
    by : (b : Bool) → is_noted t (take i names) ≡ b → rows_of t new ≡ gone b (rows_of t old)
        → (rows_of t new ≡ rows_of t old) ⊎ (rows_of t new ≡ gone (is_noted t names) (rows_of t old))
    by true noted rows = inr (rows ∙ ap (λ b. gone b (rows_of t old)) (sym (some_noted t names i noted)))
    by false out rows = inl rows

-- ---- .. of an instance

module _ (x : Instance) (names : List (List ℕ)) (noted : AreAllNoted names x) (were : AreNoted x) (old new : Shelf)
    (stored : (t : List ℕ) → rows_of t old.pairs ≡ rows_held x t) where
  none_kept : (t : List ℕ) → gone (is_noted t names) (rows_of t old.pairs) ≡ []
  unfolding stored_in
  none_kept t = elim (cases_Bool (is_noted t names)) [
    | inl is ↦ rw is refl
    | inr out ↦
        rw out
        (stored t
        ∙ ap (λ (l : Local). stored_in l.held) (were t (subst (λ ns. is_noted t ns ≡ false) noted.all out)))
  ]

  pub left_none : (fault : Option Fault) → LeavesNoneOf names fault old new
      → LeavesEach (rows_held x) no_rows_of fault old new
  left_none None left = record { rows = λ t. left.rows t ∙ none_kept t; cause = left.cause }
  left_none (Some fault) left = record { rows = λ t shut. by t (left.rows t shut); cause = left.cause }
    where
      by : (t : List ℕ)
          → (rows_of t new.pairs ≡ rows_of t old.pairs) ⊎ (rows_of t new.pairs ≡ gone (is_noted t names) (rows_of t old.pairs))
          → (rows_of t new.pairs ≡ rows_held x t) ⊎ (rows_of t new.pairs ≡ [])
      by t (inl rows) = inl (rows ∙ stored t)
      by t (inr rows) = inr (rows ∙ none_kept t)

-- why it doesn't leave
pub stops_leaving : (x : Instance) → x.up ≡ true → (fault : Fault) → StopsStoring true fault → StopsLeaving x fault
stops_leaving x up OutOfMemory stops = up
stops_leaving x up CountsExhausted stops = absurd stops
stops_leaving x up PatternNotBuilt stops = absurd stops
stops_leaving x up StoreRefused stops = up
