-- What columns that were read make of a row.
use Rattle.std.proofs.Common.{◌≡◌, ℕ, zero, suc, ℤ, pos, IsTrue, IsUtf8, IfSome, List, [], ◌∷◌, length, Option, Some, Result, Ok, Err, IsErr, IfOk, MatchResult, refl, sym, ap, subst, ◌∙◌}
use Rattle.std.proofs.lemmas.Bool.{false≢true}
use Rattle.sqlite.specs.declared.types.Value.TheVariants.{Int, Text, Blob}
use Rattle.sqlite.specs.Order.{Row, column}
use Rattle.am_tenant.specs.Names.{is_tenant_name}
use Rattle.am_match.specs.Spelling.{spelling}
use Rattle.am_item.specs.declared.item.Item.{Item}
use Rattle.am_item.specs.declared.stamp.Stamp.{Stamp}
use Rattle.am_store.specs.Reading.{HasStamp, ReadsConfig, ReadsSilence}
use Rattle.am_store.specs.Rows.{IsConfig, IsSilence, IsSilenceRow, body_value, id_text}
use Rattle.am_store.specs.Stored.{ConfigurationText, SilenceText, SilenceWords, stamped, stored_item}
use Rattle.am_store.proofs.Latest.{Pair}
use Rattle.am_store.proofs.Spelled.{config_says, silence_says}

-- so many columns from a place on
abbrev pub listed : ℕ → Row → ℕ → Row
listed zero row at = []
listed (suc n) row at = column row at ∷ listed n row (suc at)

later : (n at : ℕ) (v : _) (row : Row) → listed n (v ∷ row) (suc at) ≡ listed n row at
later zero at v row = refl
later (suc n) at v row = ap (λ rest. column row at ∷ rest) (later n (suc at) v row)

all_listed : (row : Row) → listed (length row) row 0 ≡ row
all_listed [] = refl
all_listed (v ∷ row) = ap (λ rest. v ∷ rest) (later (length row) 0 v row ∙ all_listed row)

-- a row is its columns
pub by_columns : (row : Row) (n : ℕ) → length row ≡ n → row ≡ listed n row 0
by_columns row n long = sym (all_listed row) ∙ ap (λ k. listed k row 0) long

-- a value that was read is what the column gave
pub read_ok : {T E F : Type 0} (P : T → Type 0) (r : Result T E) (s : Result T F) (x : T) → MatchResult r (λ v. s ≡ Ok v) (λ _. IsErr s) → s ≡ Ok x → IfOk r P → P x
read_ok P (Ok v) s x same ok h = let e : v ≡ x = (let both = sym same ∙ ok in cc) in subst P e h
read_ok P (Err e) s x bad ok h = absurd (false≢true (subst IsErr ok bad))

pub both : {T E : Type 0} (P Q : T → Type 0) (r : Result T E) → IfOk r P → IfOk r Q → IfOk r (λ x. P x × Q x)
both P Q (Ok x) p q = (p, q)
both P Q (Err e) p q = tt

module _ (row : Row) (id : ℤ) (t : List ℕ) (stamp : Stamp) (first : column row 0 ≡ Int id) (second : column row 1 ≡ Text t) (named : IsTrue (is_tenant_name t)) where
  abbrev pub config_row : (body : Option (List ℕ)) → length row ≡ 7 → column row 2 ≡ body_value body → IfSome body IsUtf8 → HasStamp row 3 stamp → IsConfig row
  config_row body long third text s = record {
    rowid = id;
    tenant = t;
    stamp = stamp;
    body = body;
    is = by_columns row 7 long ∙ rw (first, second, third, s.moment, s.instance, s.incarnation, s.count) refl;
    named = named;
    stamped = s.stamp;
    text = text;
  }

  abbrev pub silence_row : (s : SilenceText) → length row ≡ 13 → column row 2 ≡ Text (id_text s.id) → column row 3 ≡ Int (pos s.starts_at) → column row 4 ≡ Int (pos s.ends_at)
      → column row 5 ≡ Int (pos s.kept_until) → column row 6 ≡ Blob s.created_by → column row 7 ≡ Blob s.comment → column row 8 ≡ Blob (spelling s.matchers)
      → HasStamp row 9 stamp → IsSilence s → IsSilenceRow row
  silence_row s long third c3 c4 c5 c6 c7 c8 written valid = record {
    rowid = id;
    tenant = t;
    stamp = stamp;
    silence = s;
    is = by_columns row 13 long ∙ rw (first, second, third, c3, c4, c5, c6, c7, c8, written.moment, written.instance, written.incarnation, written.count) refl;
    named = named;
    stamped = written.stamp;
    valid = valid;
  }

pub config_reads : (row : Row) (t : List ℕ) (item : Item) (is : IsConfig row) → is.tenant ≡ t → stored_item item ≡ Some (stamped is.stamp (ConfigurationText is.body)) → ReadsConfig row t item
config_reads row t item is whose what = record {
  is = is;
  tenant_is = ap (λ (p : Pair). p.0) (config_says row is) ∙ whose;
  item_is = what ∙ ap (λ (p : Pair). Some p.1) (sym (config_says row is));
}

pub silence_reads : (row : Row) (t : List ℕ) (item : Item) (is : IsSilenceRow row) → is.tenant ≡ t → stored_item item ≡ Some (stamped is.stamp (SilenceWords is.silence)) → ReadsSilence row t item
silence_reads row t item is whose what = record {
  is = is;
  tenant_is = ap (λ (p : Pair). p.0) (silence_says row is) ∙ whose;
  item_is = what ∙ ap (λ (p : Pair). Some p.1) (sym (silence_says row is));
}

-- the stamp of a row of silences
pub silence_stamped : (row : Row) (is : IsSilenceRow row) → HasStamp row 9 is.stamp
silence_stamped row is = record {
  moment = ap (λ r. column r 9) is.is;
  instance = ap (λ r. column r 10) is.is;
  incarnation = ap (λ r. column r 11) is.is;
  count = ap (λ r. column r 12) is.is;
  stamp = is.stamped;
}
