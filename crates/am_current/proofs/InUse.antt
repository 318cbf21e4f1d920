-- What was read stays what is in use.
use Rattle.std.proofs.Common.{◌≡◌, ℕ, false, cond, List, [], Option, Some, None, IfSome, IfNone, Result, Ok, Err, OnOk, unwrap_or, sym, ap, ◌∙◌, subst}
use Rattle.std.specs.BTreeMap.{BTreeMap}
use Rattle.std.specs.List.{list_any}
use Rattle.std.specs.Result.{is_err}
use Rattle.std.proofs.lemmas.Bool.{cond-false, cond-true, false≢true}
use Rattle.am_tenant.specs.Names.{same}
use Rattle.am_tenant.proofs.Same.{eq_from_same}
use Rattle.am_config.specs.Configuration.{Configuration}
use Rattle.am_config.specs.Default.{default_configuration}
use Rattle.am_item.specs.declared.item.Item.{Item}
use Rattle.am_item.specs.Best.{IsRising, all_joined, item_at}
use Rattle.am_book.specs.Book.{items_of}
use Rattle.am_item.specs.declared.key.ThingKey.TheVariants.{Configuration as ConfigurationKey}
use Rattle.am_item.proofs.Greatest.{by_cases}
use Rattle.am_current.specs.Current.{AreInUse, configuration_in, read_for}
use Rattle.am_current.specs.Replacing.{replaces}
use Rattle.am_current.proofs.Stays.{configuration_stays}

-- once what is held of one tenant was read for it
pub in_use_read : (m n : BTreeMap (List ℕ) Configuration) (book : List (List ℕ × Item)) (tenant : List ℕ) (held : List Item) → AreInUse m book
    → held ≡ items_of tenant book → IfSome (read_for tenant n) (λ c. c ≡ configuration_in held)
    → ((t : List ℕ) → same t tenant ≡ false → read_for t n ≡ read_for t m)
    → AreInUse n book
in_use_read m n book tenant held are is own others t =
    by_cases (same t tenant)
    (λ e.
    let here : held ≡ items_of t book = is ∙ ap (λ s. items_of s book) (sym (eq_from_same t tenant e)) in
    subst (λ xs. IfSome (read_for t n) (λ c. c ≡ configuration_in xs)) here
    (subst (λ s. IfSome (read_for s n) (λ c. c ≡ configuration_in held)) (sym (eq_from_same t tenant e)) own))
    (λ e. subst (λ o. IfSome o (λ c. c ≡ configuration_in (items_of t book))) (sym (others t e)) (are t))

-- once items were put of which none replaces a tenant's configuration
pub in_use_put : (m : BTreeMap (List ℕ) Configuration) (book now : List (List ℕ × Item)) (tenant : List ℕ) (held items : List Item) → AreInUse m book
    → held ≡ items_of tenant book → IsRising held → list_any (replaces (item_at ConfigurationKey held)) items ≡ false
    → ((t : List ℕ) → items_of t now ≡ cond (same t tenant) (all_joined (items_of t book) items) (items_of t book))
    → AreInUse m now
in_use_put m book now tenant held items are is up none joins t =
    let was = items_of t book in
    let same_used : configuration_in (items_of t now) ≡ configuration_in was =
    by_cases (same t tenant)
    (λ e.
    let here : held ≡ was = is ∙ ap (λ s. items_of s book) (sym (eq_from_same t tenant e)) in
    ap configuration_in (joins t ∙ cond-true _ (all_joined was items) was e)
    ∙ subst (λ xs. configuration_in (all_joined xs items) ≡ configuration_in xs) here (configuration_stays held items up none))
    (λ e. ap configuration_in (joins t ∙ cond-false _ (all_joined was items) was e)) in
    subst (λ used. IfSome (read_for t m) (λ c. c ≡ used)) (sym same_used) (are t)

-- once all that is held of a tenant is gone, and what was read for it
pub in_use_left : (m n : BTreeMap (List ℕ) Configuration) (book now : List (List ℕ × Item)) (tenant : List ℕ) → AreInUse m book
    → ((t : List ℕ) → read_for t n ≡ cond (same t tenant) None (read_for t m))
    → ((t : List ℕ) → items_of t now ≡ cond (same t tenant) [] (items_of t book))
    → AreInUse n now
in_use_left m n book now tenant are read left t =
    by_cases (same t tenant)
    (λ e. subst (λ o. IfSome o (λ c. c ≡ configuration_in (items_of t now))) (sym (read t ∙ cond-true _ None (read_for t m) e)) tt)
    (λ e.
    subst (λ o. IfSome o (λ c. c ≡ configuration_in (items_of t now))) (sym (read t ∙ cond-false _ None (read_for t m) e))
    (subst (λ xs. IfSome (read_for t m) (λ c. c ≡ configuration_in xs)) (sym (left t ∙ cond-false _ [] (items_of t book) e)) (are t)))

-- the one that was read, or else the default one, is in use
pub in_use_found : (found : Option Configuration) (otherwise : Configuration) (held : List Item)
    → IfSome found (λ c. c ≡ configuration_in held) → IfNone found (configuration_in held ≡ default_configuration)
    → otherwise ≡ default_configuration → unwrap_or found otherwise ≡ configuration_in held
in_use_found None otherwise held read unread is = is ∙ sym unread
in_use_found (Some c) otherwise held read unread is = read

-- what is so where a call succeeds
pub at_ok : {T E X : Type 0} (r : Result T E) → false ≡ is_err r → OnOk r X → X
at_ok (Ok _) e x = x
at_ok (Err _) e x = absurd (false≢true e)
