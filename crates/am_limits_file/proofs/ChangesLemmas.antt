-- What is set where a file of limits replaces another.
use Rattle.std.proofs.Common.{◌≡◌, ℕ, Bool, true, false, cond, not, List, [], ◌∷◌, Option, Some, None, ◌||◌, refl, subst, sym, ap, ap₂, ◌∙◌}
use Rattle.std.proofs.lemmas.Bool.{false≢true, true≢false}
use Rattle.std.specs.BTreeMap.{BTreeMap, get, is_at}
use Rattle.std.specs.Cmp.Lexicographic.{slice_cmp}
use Rattle.std.specs.Map.{lookup}
use Rattle.std.specs.Ordering.{nat_cmp}
use Rattle.am_tenant.specs.Names.{same}
use Rattle.am_tenant.proofs.Same.{eq_from_same, is_eq-name_cmp, same-sym}
use Rattle.am_limit.specs.Books.{Book, limits_of, unset_book}
use Rattle.am_limit.specs.declared.limits.Limits.{Limits}
use Rattle.am_limit.specs.contracts.limits.LimitsPartialEq.TheImpl.{eq-value}
use Rattle.am_limits_file.specs.Changes.{change_for, change_of, limits_among, limits_by, names, noted, same_limits, set_of}
use Rattle.am_limits_file.specs.declared.reading.LimitsFile.{LimitsFile}
use Rattle.am_limits_file.specs.declared.reading.TenantLimits.{TenantLimits}

-- what `==` of limits tells
same_by : (a b c d e f g h i j : ℕ) (m n : Option ℕ) →
    (eq-value).it (record { alerts = a; silences = b; configuration = c; silence = d; notices = e; alert_bytes = m })
    (record { alerts = f; silences = g; configuration = h; silence = i; notices = j; alert_bytes = n })
    ≡ same_limits (record { alerts = a; silences = b; configuration = c; silence = d; notices = e; alert_bytes = m })
    (record { alerts = f; silences = g; configuration = h; silence = i; notices = j; alert_bytes = n })
same_by a b c d e f g h i j None None = refl
same_by a b c d e f g h i j None (Some n) = refl
same_by a b c d e f g h i j (Some m) None = refl
same_by a b c d e f g h i j (Some m) (Some n) = refl

pub same_limits_by : (a b : Limits) → (eq-value).it a b ≡ same_limits a b
same_limits_by a b =
    same_by a.alerts a.silences a.configuration a.silence a.notices b.alerts b.silences b.configuration b.silence b.notices
    a.alert_bytes b.alert_bytes

-- a tenant that isn't named has the default
pub limits_among-unnamed : (t : List ℕ) (limits : Limits) (tenants : List TenantLimits) → names t tenants ≡ false
    → limits_among t limits tenants ≡ limits
limits_among-unnamed t limits [] h = refl
limits_among-unnamed t limits (named ∷ later) h =
    unnamed (same t named.tenant) h (λ e. limits_among-unnamed t limits later e) where
      unnamed : (b : Bool) → (b || names t later) ≡ false → (names t later ≡ false → limits_among t limits later ≡ limits)
          → limits_among t (cond b named.limits limits) later ≡ limits
      unnamed true h rest = absurd (true≢false h)
      unnamed false h rest = rest h

-- one after another
pub noted_in_turn : (p q : Bool) (change before : Option Limits) → noted q change (noted p change before) ≡ noted (p || q) change before
noted_in_turn true true None before = refl
noted_in_turn true true (Some limits) before = refl
noted_in_turn true false None before = refl
noted_in_turn true false (Some limits) before = refl
noted_in_turn false true change before = refl
noted_in_turn false false change before = refl

-- what is set of all tenants once limits were set of one
by_name : (t : List ℕ) (es : List (List ℕ × Limits)) → lookup (is_at (slice_cmp nat_cmp t)) es ≡ set_of t es
by_name t [] = refl
by_name t (e ∷ es) =
    ap (λ b. cond b (Some e.1) (lookup (is_at (slice_cmp nat_cmp t)) es)) (is_eq-name_cmp t e.0)
    ∙ ap (cond (same t e.0) (Some e.1)) (by_name t es)

pub set_of-insert : (m n : BTreeMap (List ℕ) Limits) (tenant : List ℕ) (limits : Limits)
    → ((q : List ℕ) → get (slice_cmp nat_cmp) n q ≡ cond (is_at (slice_cmp nat_cmp tenant) q) (Some limits) (get (slice_cmp nat_cmp) m q))
    → (t : List ℕ) → set_of t n.entries ≡ cond (same t tenant) (Some limits) (set_of t m.entries)
set_of-insert m n tenant limits gets t =
    sym (by_name t n.entries) ∙ gets t
    ∙ ap (cond (is_at (slice_cmp nat_cmp tenant) t) (Some limits)) (by_name t m.entries)
    ∙ ap (λ b. cond b (Some limits) (set_of t m.entries)) (is_eq-name_cmp tenant t ∙ same-sym tenant t)

-- what is set of all tenants once one was noted whose limits change
pub noted-set : (t tenant : List ℕ) (before after : Book) (was limits : Limits) (old : Option Limits)
    → was ≡ limits_of tenant before → limits ≡ limits_of tenant after → same_limits was limits ≡ false
    → cond (same t tenant) (Some limits) old ≡ noted (same t tenant) (change_for t before after) old
noted-set t tenant before after was limits old eb ea differs = go (same t tenant) (eq_from_same t tenant) where
  differ : same_limits (limits_of tenant before) (limits_of tenant after) ≡ false
  differ = sym (ap₂ same_limits eb ea) ∙ differs

  of_it : Some limits ≡ noted true (change_for tenant before after) old
  of_it = ap Some ea ∙ ap (λ b. noted true (cond b None (Some (limits_of tenant after))) old) (sym differ)

  go : (b : Bool) → (b ≡ true → t ≡ tenant) → cond b (Some limits) old ≡ noted b (change_for t before after) old
  go true is = subst (λ s. Some limits ≡ noted true (change_for s before after) old) (sym (is refl)) of_it
  go false is = refl

-- .. and whose limits don't
pub noted-same : (t tenant : List ℕ) (before after : Book) (was limits : Limits) (old : Option Limits)
    → was ≡ limits_of tenant before → limits ≡ limits_of tenant after → same_limits was limits ≡ true
    → old ≡ noted (same t tenant) (change_for t before after) old
noted-same t tenant before after was limits old eb ea alike = go (same t tenant) (eq_from_same t tenant) where
  agree : same_limits (limits_of tenant before) (limits_of tenant after) ≡ true
  agree = sym (ap₂ same_limits eb ea) ∙ alike

  of_it : old ≡ noted true (change_for tenant before after) old
  of_it = ap (λ b. noted true (cond b None (Some (limits_of tenant after))) old) (sym agree)

  go : (b : Bool) → (b ≡ true → t ≡ tenant) → old ≡ noted b (change_for t before after) old
  go true is = subst (λ s. old ≡ noted true (change_for s before after) old) (sym (is refl)) of_it
  go false is = refl

-- what is set once the tenants of both files were noted is what is to be set
noted-once : (p q : Bool) (change : Option Limits) → (p ≡ false → q ≡ false → None ≡ change)
    → noted q change (noted p change None) ≡ change
noted-once true true None h = refl
noted-once true true (Some limits) h = refl
noted-once true false None h = refl
noted-once true false (Some limits) h = refl
noted-once false true None h = refl
noted-once false true (Some limits) h = refl
noted-once false false change h = h refl refl

all_noted : (t : List ℕ) (was next : LimitsFile) → same_limits was.default next.default ≡ true
    → noted (names t next.tenants) (change_of (limits_by t was) (limits_by t next))
    (noted (names t was.tenants) (change_of (limits_by t was) (limits_by t next)) None)
    ≡ change_of (limits_by t was) (limits_by t next)
all_noted t was next alike =
    noted-once (names t was.tenants) (names t next.tenants) (change_of (limits_by t was) (limits_by t next)) unnamed where
      unnamed : names t was.tenants ≡ false → names t next.tenants ≡ false
          → None ≡ change_of (limits_by t was) (limits_by t next)
      unnamed p q =
          ap (λ b. cond b None (Some next.default)) (sym alike)
          ∙ ap₂ change_of (sym (limits_among-unnamed t was.default was.tenants p))
          (sym (limits_among-unnamed t next.default next.tenants q))

pub changed : (t : List ℕ) (was next : LimitsFile) (before after : Book) (ws ns : List TenantLimits)
    (none first both : List (List ℕ × Limits))
    → limits_of t before ≡ limits_by t was → limits_of t after ≡ limits_by t next
    → ws ≡ was.tenants → ns ≡ next.tenants → none ≡ []
    → set_of t first ≡ noted (names t ws) (change_for t before after) (set_of t none)
    → set_of t both ≡ noted (names t ns) (change_for t before after) (set_of t first)
    → same_limits was.default next.default ≡ true
    → set_of t both ≡ change_of (limits_by t was) (limits_by t next)
changed t was next before after ws ns none first both eb ea ew en e0 e1 e2 alike =
    e2
    ∙ ap₂ (λ l o. noted (names t l) (change_for t before after) o) en
    (e1 ∙ ap₂ (λ l es. noted (names t l) (change_for t before after) (set_of t es)) ew e0)
    ∙ ap (λ change. noted (names t next.tenants) change (noted (names t was.tenants) change None)) (ap₂ change_of eb ea)
    ∙ all_noted t was next alike

-- no tenant was set other limits than the usual ones
pub limits_of-unset : (t : List ℕ) (usual : Limits) → limits_of t (unset_book usual) ≡ usual
unfolding limits_of
limits_of-unset t usual = refl

-- what `!=` tells
pub same_from_ne : (a b : Limits) → not ((eq-value).it a b) ≡ false → same_limits a b ≡ true
same_from_ne a b h = sym (same_limits_by a b) ∙ go ((eq-value).it a b) h where
  go : (r : Bool) → not r ≡ false → r ≡ true
  go true h = refl
  go false h = absurd (true≢false h)

pub other_from_ne : (a b : Limits) → not ((eq-value).it a b) ≡ true → same_limits a b ≡ false
other_from_ne a b h = sym (same_limits_by a b) ∙ go ((eq-value).it a b) h where
  go : (r : Bool) → not r ≡ true → r ≡ false
  go true h = absurd (false≢true h)
  go false h = refl
