-- What is left of an object once a member is taken out.
use Rattle.std.proofs.Common.{◌≡◌, ℕ, List, [], ◌∷◌, Option, Some, Ordering, Less, Equal, Greater, false, cond, string_bytes, nat_cmp, is_eq, refl, sym, ap, ◌∙◌}
use Rattle.std.proofs.lemmas.Bool.{true≢false}
use Rattle.std.proofs.lemmas.Map.Lookups.{exact_bytes}
use Rattle.std.specs.BTreeMap.{is_at}
use Rattle.std.specs.Cmp.Lexicographic.{slice_cmp}
use Rattle.std.specs.Map.{remove_entry}
use Rattle.std.specs.Ordering.{match_ordering}
use Rattle.serde_json.proofs.Views.{Entry}
use Rattle.serde_json.specs.Data.{Data}
use Rattle.serde_json.specs.Find.{get_member}
use Rattle.serde_json.specs.View.{members_view, view}

-- a member of another key is passed over
passed : (o : Ordering) (rest here : Option Data) → is_eq o ≡ false → rest ≡ match_ordering o rest here rest
passed Less rest here e = refl
passed Equal rest here e = absurd (true≢false e)
passed Greater rest here e = refl

-- the members at other keys stay
pub member_kept : (key other : List ℕ) → is_eq (slice_cmp nat_cmp other key) ≡ false → (es : List Entry)
    → get_member other (members_view (remove_entry (is_at (λ k. slice_cmp nat_cmp key (string_bytes k))) es)) ≡ get_member other (members_view es)
member_kept key other apart [] = refl
member_kept key other apart (e ∷ es) =
    elim (slice_cmp nat_cmp key (string_bytes e.0))
    as (λ o. slice_cmp nat_cmp key (string_bytes e.0) ≡ o → get_member other (members_view (cond (is_eq o) es (e ∷ remove_entry (is_at (λ k. slice_cmp nat_cmp key (string_bytes k))) es))) ≡ get_member other (members_view (e ∷ es))) [
      | Less ↦ λ h. behind (member_kept key other apart es)
      | Equal ↦ λ h. passed (slice_cmp nat_cmp other (string_bytes e.0)) _ _ (ap (λ name. is_eq (slice_cmp nat_cmp other name)) (sym (exact_bytes _ _ h)) ∙ apart)
      | Greater ↦ λ h. behind (member_kept key other apart es)
    ] refl
  where
    behind : get_member other (members_view (remove_entry (is_at (λ k. slice_cmp nat_cmp key (string_bytes k))) es)) ≡ get_member other (members_view es)
        → get_member other (members_view (e ∷ remove_entry (is_at (λ k. slice_cmp nat_cmp key (string_bytes k))) es)) ≡ get_member other (members_view (e ∷ es))
    behind h = ap (λ rest. match_ordering (slice_cmp nat_cmp other (string_bytes e.0)) rest (Some (view e.1)) rest) h
