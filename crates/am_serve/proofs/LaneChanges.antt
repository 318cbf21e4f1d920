-- What every tenant has once the lane of one is changed.
use Rattle.std.proofs.Common.{◌≡◌, ℕ, Bool, true, false, cond, List, [], ◌∷◌, Option, refl, sym, ap, ◌∙◌}
use Rattle.std.proofs.lemmas.Bool.{cond-false, cond-true}
use Rattle.std.specs.BTreeMap as tree
use Rattle.std.specs.Cmp.Lexicographic.{slice_cmp}
use Rattle.std.specs.Map.{lookup, remove_entry, set_value}
use Rattle.std.specs.Ordering.{nat_cmp}
use Rattle.am_tenant.specs.Names.{same}
use Rattle.am_tenant.proofs.Same.{eq_from_same}
use Rattle.am_tenant.proofs.Tables.{lookup-by_name, lookup-updates}
use Rattle.am_serve.specs.declared.lanes.Lane.{Lane}

module _ {T : Type 0} where
  -- the lane of a tenant
  abbrev pub lane_at : tree.BTreeMap (List ℕ) (Lane T) → List ℕ → Option (Lane T)
  lane_at lanes t = lookup (λ name. same t name) lanes.entries

  -- one tenant's lane is another one in `new`, and every other tenant's is what it was
  abbrev pub Changes : tree.BTreeMap (List ℕ) (Lane T) → tree.BTreeMap (List ℕ) (Lane T) → List ℕ → Option (Lane T) → Type 0
  Changes old new tenant lane = (t : List ℕ) → lane_at new t ≡ cond (same t tenant) lane (lane_at old t)

  -- one write
  pub once : (old new : tree.BTreeMap (List ℕ) (Lane T)) (tenant : List ℕ) (lane : Option (Lane T)) → tree.Updates (slice_cmp nat_cmp) old new tenant lane → Changes old new tenant lane
  once old new tenant lane written t = lookup-updates old new tenant lane written t

  -- two writes of one tenant's lane are the second of them
  pub twice : (old middle new : tree.BTreeMap (List ℕ) (Lane T)) (tenant : List ℕ) (first second : Option (Lane T)) → Changes old middle tenant first → Changes middle new tenant second → Changes old new tenant second
  twice old middle new tenant first second one two t = two t ∙ ap (cond (same t tenant) second) (one t) ∙ by_case (same t tenant)
    where
      by_case : (b : Bool) → cond b second (cond b first (lane_at old t)) ≡ cond b second (lane_at old t)
      by_case true = refl
      by_case false = refl

  -- what a look-up in the order of names found
  pub found_at : (lanes : tree.BTreeMap (List ℕ) (Lane T)) (tenant : List ℕ) (lane : Option (Lane T)) → lane ≡ lookup (tree.is_at (slice_cmp nat_cmp tenant)) lanes.entries → lane_at lanes tenant ≡ lane
  found_at lanes tenant lane found = sym (found ∙ lookup-by_name tenant lanes.entries)

  -- a lane that was written first is removed all the same
  pub removed_written : (test : List ℕ → Bool) (entries : List (List ℕ × Lane T)) (lane : Lane T) → remove_entry test (set_value test entries lane) ≡ remove_entry test entries
  removed_written test [] lane = refl
  removed_written test (entry ∷ entries) lane = by_case (test entry.0) refl (removed_written test entries lane)
    where
      by_case : (b : Bool) → test entry.0 ≡ b → remove_entry test (set_value test entries lane) ≡ remove_entry test entries
          → remove_entry test (cond b ((entry.0, lane) ∷ entries) (entry ∷ set_value test entries lane)) ≡ cond b entries (entry ∷ remove_entry test entries)
      by_case true is rest = cond-true (test entry.0) entries ((entry.0, lane) ∷ remove_entry test entries) is
      by_case false is rest =
          cond-false (test entry.0) (set_value test entries lane) (entry ∷ remove_entry test (set_value test entries lane)) is
          ∙ ap (λ (es : List (List ℕ × Lane T)). entry ∷ es) rest

module _ {T X : Type 0} (seen : Option (Lane T) → X) where
  -- what is seen of one tenant is a function of what was seen of it, and of every other what was
  pub seen_changed : (old new : tree.BTreeMap (List ℕ) (Lane T)) (tenant : List ℕ) (lane : Option (Lane T)) (f : X → X)
      → Changes old new tenant lane → seen lane ≡ f (seen (lane_at old tenant)) → (t : List ℕ)
      → seen (lane_at new t) ≡ cond (same t tenant) (f (seen (lane_at old t))) (seen (lane_at old t))
  seen_changed old new tenant lane f changes is t = ap seen (changes t) ∙ by_case (same t tenant) refl
    where
      by_case : (b : Bool) → same t tenant ≡ b → seen (cond b lane (lane_at old t)) ≡ cond b (f (seen (lane_at old t))) (seen (lane_at old t))
      by_case true e = is ∙ ap (λ name. f (seen (lane_at old name))) (sym (eq_from_same t tenant e))
      by_case false e = refl

  -- what is seen of every tenant stays
  pub seen_kept : (old new : tree.BTreeMap (List ℕ) (Lane T)) (tenant : List ℕ) (lane : Option (Lane T))
      → Changes old new tenant lane → seen lane ≡ seen (lane_at old tenant) → (t : List ℕ)
      → seen (lane_at new t) ≡ seen (lane_at old t)
  seen_kept old new tenant lane changes is t = seen_changed old new tenant lane (λ x. x) changes is t ∙ by_case (same t tenant)
    where
      by_case : (b : Bool) → cond b (seen (lane_at old t)) (seen (lane_at old t)) ≡ seen (lane_at old t)
      by_case true = refl
      by_case false = refl

  -- and what is seen of every other tenant
  pub seen_elsewhere : (old new : tree.BTreeMap (List ℕ) (Lane T)) (tenant : List ℕ) (lane : Option (Lane T))
      → Changes old new tenant lane → (t : List ℕ) → same t tenant ≡ false → seen (lane_at new t) ≡ seen (lane_at old t)
  seen_elsewhere old new tenant lane changes t apart = ap seen (changes t ∙ cond-false (same t tenant) lane (lane_at old t) apart)
