-- Alerts that are in their groups by a configuration, as some are put.
use Rattle.std.proofs.Common.{◌≡◌, ℕ, zero, suc, ◌<◌, false, inl, inr, List, [], ◌∷◌, ◌++◌, length, get_or, Option}
use Rattle.std.proofs.Common.{Some, None, IfSome, Ordering, refl, sym, ap, ◌∙◌, subst, arith}
use Rattle.std.specs.BTreeMap.{insert_entry}
use Rattle.std.specs.List.{AllByRecursion, list_any}
use Rattle.std.specs.Map.{keys_of, lookup}
use Rattle.std.specs.Option.{is_some}
use Rattle.std.specs.Ordering.{match_ordering}
use Rattle.std.specs.declared.cmp.Ordering.TheVariants.{Less, Equal, Greater}
use Rattle.std.proofs.lemmas.Bool.{cases_Bool, false≢true, or_parts}
use Rattle.am_config.specs.Configuration.{Configuration}
use Rattle.am_group.specs.Grouping.{groups_of}
use Rattle.am_labels.specs.declared.Label.{Label}
use Rattle.am_labels.specs.Labels.{labels_cmp}
use Rattle.am_labels.proofs.InOrder.{labels_exact}
use Rattle.am_members.specs.declared.group.Group.{Group}
use Rattle.am_members.specs.declared.known.Known.{Known}
use Rattle.am_members.specs.Grouped.{put_all, put_in}
use Rattle.am_members.specs.Names.{is_set, without}
use Rattle.am_members.proofs.Orders.{set_tells}
use Rattle.am_planning.specs.Planning.{planned, planned_alerts}
use Rattle.am_notifier.specs.Following.{all_came, all_sooner, is_known, met, unknown_of}
use Rattle.am_notifier.proofs.Coming.{Alerts, sinces, sinces_met}
use Rattle.am_notifier.proofs.Puts.{IsOrdered, found_put}

-- each is
abbrev pub AreBy : Configuration → Alerts → Type 0
AreBy c xs = AllByRecursion (λ a. a.1.groups ≡ groups_of c a.0) xs

-- those that were planned are
pub planned_by_it : (c : Configuration) (s : List (List Label × ℕ)) → AreBy c (planned_alerts c s)
unfolding planned_alerts
planned_by_it c [] = tt
planned_by_it c (a ∷ s) = (refl, planned_by_it c s)

-- and those that are were planned
pub as_planned : (c : Configuration) (xs : Alerts) → AreBy c xs → xs ≡ planned_alerts c (sinces xs)
unfolding planned_alerts
as_planned c [] are = refl
as_planned c (x ∷ xs) are =
    ap (λ (gs : List Group). let k : Known = record { since = x.1.since; groups = gs } in (x.0, k) ∷ xs) are.0
    ∙ ap (λ rest. planned c (x.0, x.1.since) ∷ rest) (as_planned c xs are.1)

-- their moments are those that they were planned with
pub sinces_planned : (c : Configuration) (s : List (List Label × ℕ)) → sinces (planned_alerts c s) ≡ s
unfolding planned_alerts
sinces_planned c [] = refl
sinces_planned c (a ∷ s) = ap (λ rest. (a.0, a.1) ∷ rest) (sinces_planned c s)

pub keys_planned : (c : Configuration) (s : List (List Label × ℕ)) → keys_of (planned_alerts c s) ≡ keys_of s
unfolding planned_alerts
keys_planned c [] = refl
keys_planned c (a ∷ s) = ap (λ ks. a.0 ∷ ks) (keys_planned c s)

pub ordered_planned : (c : Configuration) (s : List (List Label × ℕ)) → IsOrdered s → IsOrdered (planned_alerts c s)
ordered_planned c s up = rw (keys_planned c s) up

-- ---- puts

by_sooner : (c : Configuration) (m : ℕ) (sets : List (List Label)) (xs : Alerts) → AreBy c xs → AreBy c (all_sooner m sets xs)
unfolding all_sooner
by_sooner c m sets [] are = tt
by_sooner c m sets (x ∷ xs) are = (are.0, by_sooner c m sets xs are.1)

by_without : (c : Configuration) (l : List Label) (xs : Alerts) → AreBy c xs → AreBy c (without l xs)
by_without c l [] are = tt
by_without c l (x ∷ xs) are = elim (cases_Bool (is_set l x.0)) [
  | inl y ↦ rw y (by_without c l xs are.1)
  | inr n ↦ rw n (are.0, by_without c l xs are.1)
]

by_insert : (c : Configuration) (l : List Label) (k : Known) (xs : Alerts) → k.groups ≡ groups_of c l → AreBy c xs → AreBy c (insert_entry labels_cmp xs l k)
by_insert c l k [] own are = (own, tt)
by_insert c l k (x ∷ xs) own are = by_order (labels_cmp l x.0) refl (by_insert c l k xs own are.1)
  where
    by_order : (o : Ordering) → labels_cmp l x.0 ≡ o → AreBy c (insert_entry labels_cmp xs l k) → AreBy c (match_ordering o ((l, k) ∷ x ∷ xs) ((x.0, k) ∷ xs) (x ∷ insert_entry labels_cmp xs l k))
    by_order Less is more = (own, are)
    by_order Equal is more = (own ∙ ap (groups_of c) (labels_exact l x.0 is), are.1)
    by_order Greater is more = (are.0, more)

by_put : (c : Configuration) (l : List Label) (k : Known) (xs : Alerts) → k.groups ≡ groups_of c l → AreBy c xs → AreBy c (put_in l k xs)
by_put c l k xs own are = by_insert c l k (without l xs) own (by_without c l xs are)

by_puts : (c : Configuration) (ps xs : Alerts) → AreBy c ps → AreBy c xs → AreBy c (put_all ps xs)
by_puts c [] xs own are = are
by_puts c (p ∷ ps) xs own are = by_puts c ps (put_in p.0 p.1 xs) own.1 (by_put c p.0 p.1 xs own.0 are)

-- once others came, all are in their groups
pub met_planned : (c : Configuration) (m : ℕ) (sets : List (List Label)) (xs : Alerts) → IsOrdered xs → xs ≡ planned_alerts c (sinces xs) → met c m sets xs ≡ planned_alerts c (all_came m sets (sinces xs))
unfolding met
met_planned c m sets xs up are =
    let before : AreBy c xs = subst (AreBy c) (sym are) (planned_by_it c (sinces xs)) in
    as_planned c (met c m sets xs)
    (by_puts c (planned_alerts c (unknown_of m sets xs)) (all_sooner m sets xs) (planned_by_it c (unknown_of m sets xs)) (by_sooner c m sets xs before))
    ∙ ap (planned_alerts c) (sinces_met c m sets xs up)

-- ---- one after the other

-- an alert may be put where it isn't known, or was put before
abbrev MayPut : Configuration → List Label → Alerts → Type 0
MayPut c l xs = IfSome (lookup (is_set l) xs) (λ held. held.groups ≡ groups_of c l)

may_still : (c : Configuration) (l : List Label) (p : List Label × Known) (xs : Alerts) → p.1.groups ≡ groups_of c p.0 → MayPut c l xs → MayPut c l (put_in p.0 p.1 xs)
may_still c l p xs own may = rw (found_put l p.0 p.1 xs) (elim (set_tells l p.0) [
  | inl y ↦ rw y.0 (own ∙ ap (groups_of c) (sym y.1))
  | inr n ↦ rw n.0 may
])

may_after : (c : Configuration) (l : List Label) (ps xs : Alerts) → AreBy c ps → MayPut c l xs → MayPut c l (put_all ps xs)
may_after c l [] xs own may = may
may_after c l (p ∷ ps) xs own may = may_after c l ps (put_in p.0 p.1 xs) own.1 (may_still c l p xs own.0 may)

-- what holds of each holds of the one at a place
at_place : {X : Type 0} (P : X → Type 0) (xs : List X) (i : ℕ) (x : X) → AllByRecursion P xs → i < length xs → x ≡ get_or xs i x → P x
at_place P [] i x all within is = absurd (omega (arith, within))
at_place P (y ∷ xs) zero x all within is = subst P (sym is) all.0
at_place P (y ∷ xs) (suc i) x all within is = at_place P xs i x all.1 (omega (arith, within)) is

-- none of them is known
none_is : (c : Configuration) (s : List (List Label × ℕ)) (xs : Alerts) → list_any (λ a. is_known a.0 xs) s ≡ false → AllByRecursion (λ a. lookup (is_set a.0) xs ≡ None) (planned_alerts c s)
unfolding planned_alerts
none_is c [] xs new = tt
none_is c (a ∷ s) xs new =
    let both = or_parts (is_known a.0 xs) (list_any (λ b. is_known b.0 xs) s) new in
    (is_none (lookup (is_set a.0) xs) both.0, none_is c s xs both.1)
  where
    is_none : (o : Option Known) → is_some o ≡ false → o ≡ None
    is_none None h = refl
    is_none (Some k) h = absurd (false≢true (sym h))

module _ (c : Configuration) (s : List (List Label × ℕ)) (xs all : Alerts) (planned_are : all ≡ planned_alerts c s) (new : list_any (λ a. is_known a.0 xs) s ≡ false)
    (ps : Alerts) (p : List Label × Known) (within : length ps < length all) (here : p ≡ get_or all (length ps) p) where
  -- of planned alerts the next is in its groups
  pub next_by : p.1.groups ≡ groups_of c p.0
  next_by = at_place (λ a. a.1.groups ≡ groups_of c a.0) all (length ps) p (subst (AreBy c) (sym planned_are) (planned_by_it c s)) within here

  next_new : lookup (is_set p.0) xs ≡ None
  next_new = at_place (λ a. lookup (is_set a.0) xs ≡ None) all (length ps) p
      (subst (λ (ys : Alerts). AllByRecursion (λ a. lookup (is_set a.0) xs ≡ None) ys) (sym planned_are) (none_is c s xs new)) within here

  -- and may be put after those before it
  pub next_may : AreBy c ps → IfSome (lookup (is_set p.0) (put_all ps xs)) (λ held. held.groups ≡ p.1.groups)
  next_may own = same_groups (lookup (is_set p.0) (put_all ps xs)) (may_after c p.0 ps xs own (rw next_new tt))
    where
      same_groups : (o : Option Known) → IfSome o (λ held. held.groups ≡ groups_of c p.0) → IfSome o (λ held. held.groups ≡ p.1.groups)
      same_groups None may = tt
      same_groups (Some held) may = may ∙ sym next_by

-- one more was planned so
pub by_more : (c : Configuration) (ps : Alerts) (p : List Label × Known) → AreBy c ps → p.1.groups ≡ groups_of c p.0 → AreBy c (ps ++ p ∷ [])
by_more c [] p are own = (own, tt)
by_more c (q ∷ ps) p are own = (are.0, by_more c ps p are.1 own)

-- one more was put
pub put_more : (ps : Alerts) (p : List Label × Known) (xs : Alerts) → put_in p.0 p.1 (put_all ps xs) ≡ put_all (ps ++ p ∷ []) xs
put_more [] p xs = refl
put_more (q ∷ ps) p xs = put_more ps p (put_in q.0 q.1 xs)
