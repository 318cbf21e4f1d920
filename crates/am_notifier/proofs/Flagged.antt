-- The label sets of alerts that came, one after the other.
use Rattle.std.proofs.Common.{◌≡◌, ◌<◌, ℕ, Bool, true, false, ◌&&◌, inl, inr, List, [], ◌∷◌, ◌++◌, length, get_or}
use Rattle.std.proofs.Common.{refl, sym, ap, ◌∙◌}
use Rattle.std.specs.Map.{keys_of}
use Rattle.std.proofs.lemmas.Bool.{cases_Bool, false≢true}
use Rattle.std.proofs.lemmas.List.Folds.{list_any_at}
use Rattle.am_labels.specs.declared.Label.{Label}
use Rattle.am_notifier.specs.Following.{is_known, is_new_known}
use Rattle.am_notifier.proofs.Coming.{Alerts}

-- one more
pub keys_more : (came : List (List Label × Bool)) (a : List Label × Bool) → keys_of (came ++ a ∷ []) ≡ keys_of came ++ a.0 ∷ []
keys_more [] a = refl
keys_more (c ∷ came) a = ap (λ sets. c.0 ∷ sets) (keys_more came a)

-- of those that came the one at a place isn't known, where it is new
pub unknown_at : (came : List (List Label × Bool)) (alerts : Alerts) (i : ℕ) (a : List Label × Bool) → is_new_known came alerts ≡ false
    → i < length came → a ≡ get_or came i a → a.1 ≡ true → is_known a.0 alerts ≡ false
unknown_at came alerts i a none within here new = elim (cases_Bool (is_known a.0 alerts)) [
  | inl known ↦
      let both : (a.1 && is_known a.0 alerts) ≡ true = rw (new, known) refl in
      absurd (false≢true (sym none ∙ list_any_at (λ c. c.1 && is_known c.0 alerts) came i a within (ap (λ c. c.1 && is_known c.0 alerts) (sym here) ∙ both)))
  | inr unknown ↦ unknown
]
