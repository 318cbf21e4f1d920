-- Columns are read that hold what is asked for, unless memory runs out.
use Rattle.std.proofs.Common.{◌≡◌, ◌≢◌, inl, inr, ℕ, ◌<◌, ◌≤◌, ℤ, length, Result, Ok, Err, IfErr, arith, sym, ◌∙◌}
use Rattle.std.proofs.lemmas.Bool.{cases_lt}
use Rattle.std.proofs.lemmas.List.{get_or_past}
use Rattle.sqlite.specs.declared.types.Value.{Value}
use Rattle.sqlite.specs.declared.types.Value.TheVariants.{Null, Int}
use Rattle.sqlite.specs.declared.error.Error.{Error}
use Rattle.sqlite.specs.declared.error.Error.TheVariants.{InvalidColumnIndex, SqliteFailure}
use Rattle.sqlite.specs.declared.error.ErrorCode.TheVariants as code
use Rattle.sqlite.specs.Order.{Row, column}
use Rattle.sqlite.specs.Reading.{IsReadError}
use Rattle.sqlite.specs.Values.{IsInt}
use Rattle.am_store.specs.Reading.{GivesColumn}

module _ (row : Row) (at : ℕ) where
  -- a value that isn't NULL lies within the row
  pub within : (v : Value) → (v ≡ Null → ⊥) → column row at ≡ v → at < length row
  within v some is = elim (cases_lt at (length row)) [
    | inl low ↦ low
    | inr past ↦ absurd (some (sym is ∙ get_or_past row at Null past))
  ]

  -- a column whose value can be read as it is asked for
  pub column_given : {X : Type 0} (r : Result X Error) (CanRead : Value → Type 0) → IfErr r (IsReadError at (column row at))
      → IfErr r (λ e. e ≢ SqliteFailure code.OutOfMemory → at < length row → ¬ (CanRead (column row at))) → at < length row → CanRead (column row at) → GivesColumn r
  column_given (Ok x) CanRead named kind low can = tt
  column_given (Err e) CanRead (inl bad) kind low can = absurd (kind (λ is. let clash = sym is ∙ bad in cc) low can)
  column_given (Err e) CanRead (inr (inl bad)) kind low can = absurd (kind (λ is. let clash = sym is ∙ bad in cc) low can)
  column_given (Err e) CanRead (inr (inr (inl bad))) kind low can = absurd (kind (λ is. let clash = sym is ∙ bad in cc) low can)
  column_given (Err e) CanRead (inr (inr (inr (inl bad)))) kind low can = absurd (kind (λ is. let clash = sym is ∙ bad in cc) low can)
  column_given (Err e) CanRead (inr (inr (inr (inr is)))) kind low can = is

  pub int_given : {X : Type 0} (r : Result X Error) (n : ℤ) → IfErr r (IsReadError at (column row at))
      → IfErr r (λ e. e ≢ SqliteFailure code.OutOfMemory → at < length row → ¬ (IsInt (column row at))) → column row at ≡ Int n → GivesColumn r
  int_given r n named kind is = column_given r IsInt named kind (within (Int n) (λ e. cc) is) (n, is)

  pub ref_given : {X : Type 0} (r : Result X Error) → IfErr r (λ e. (e ≡ InvalidColumnIndex at) × (length row ≤ at)) → at < length row → GivesColumn r
  ref_given (Ok x) none low = tt
  ref_given (Err e) none low = absurd (omega (arith, none.1, low))
