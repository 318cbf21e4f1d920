-- The moments since which alerts are held, and the alerts that are known, once others came.
use Rattle.std.proofs.Common.{◌≡◌, ℕ, ◌≤◌, min, Bool, true, false, not, ◌&&◌, ◌||◌, cond, inl, inr, List, [], ◌∷◌}
use Rattle.std.proofs.Common.{◌++◌, map, Option, Some, None, refl, sym, ap, ◌∙◌, arith}
use Rattle.std.specs.List.{filter, list_any}
use Rattle.std.specs.Map.{keys_of, lookup}
use Rattle.std.specs.Option.{is_some, option_map}
use Rattle.std.specs.Ordering.{is_lt, nat_cmp}
use Rattle.std.proofs.lemmas.Bool.{cases_Bool}
use Rattle.std.proofs.lemmas.Bool.Decides.{nat_tests}
use Rattle.std.proofs.lemmas.List.Folds.{list_any-append}
use Rattle.am_config.specs.Configuration.{Configuration}
use Rattle.am_group.specs.Grouping.{groups_of}
use Rattle.am_labels.specs.declared.Label.{Label}
use Rattle.am_members.specs.declared.known.Known.{Known}
use Rattle.am_members.specs.Grouped.{put_all, put_in}
use Rattle.am_members.specs.Names.{is_set}
use Rattle.am_members.proofs.Orders.{set_tells}
use Rattle.am_planning.specs.Planning.{planned_alerts}
use Rattle.am_notifier.specs.Following.{all_came, all_sooner, came, is_known, met, since_by, sooner, unknown_of}
use Rattle.am_notifier.proofs.Puts.{IsOrdered, found_put, ordered_put, put_same, same_found}

-- alerts by label set
abbrev pub Alerts : Type 0
Alerts = List (List Label × Known)

-- each with the moment since which it is held
abbrev pub sinces : Alerts → List (List Label × ℕ)
sinces alerts = map (λ a. (a.0, a.1.since)) alerts

-- ---- which is the lesser

pub below_least : (m s : ℕ) → true ≡ is_lt (nat_cmp m s) → m ≡ min m s
below_least m s below = grind (arith, nat_tests)

pub above_least : (m s : ℕ) → false ≡ is_lt (nat_cmp m s) → s ≤ m
above_least m s above = grind (arith, nat_tests)

-- ---- moments

since_twice : (m : ℕ) (o : Option ℕ) → since_by m (Some (since_by m o)) ≡ since_by m o
since_twice m None = omega arith
since_twice m (Some s) = omega arith

pub found_came : (m : ℕ) (q : List Label) (sets : List (List Label)) (s : List (List Label × ℕ)) → lookup (is_set q) (all_came m sets s)
    ≡ cond (list_any (is_set q) sets) (Some (since_by m (lookup (is_set q) s))) (lookup (is_set q) s)
found_came m q [] s = refl
found_came m q (l ∷ sets) s =
    found_came m q sets (came m l s)
    ∙ ap (λ o. cond (list_any (is_set q) sets) (Some (since_by m o)) o) (found_put q l (since_by m (lookup (is_set l) s)) s)
    ∙ elim (set_tells q l) [
      | inl y ↦ rw y.0 (ap (λ k. cond (list_any (is_set q) sets) (Some (since_by m (Some (since_by m (lookup (is_set k) s))))) (Some (since_by m (lookup (is_set k) s)))) (sym y.1)
          ∙ again (list_any (is_set q) sets) (lookup (is_set q) s))
      | inr n ↦ rw n.0 refl
    ]
  where
    again : (b : Bool) (o : Option ℕ) → cond b (Some (since_by m (Some (since_by m o)))) (Some (since_by m o)) ≡ Some (since_by m o)
    again true o = ap Some (since_twice m o)
    again false o = refl

pub ordered_came : (m : ℕ) (sets : List (List Label)) (s : List (List Label × ℕ)) → IsOrdered s → IsOrdered (all_came m sets s)
ordered_came m [] s up = up
ordered_came m (l ∷ sets) s up = ordered_came m sets (came m l s) (ordered_put l (since_by m (lookup (is_set l) s)) s up)

-- ---- the moments of alerts

pub found_since : (q : List Label) (xs : Alerts) → lookup (is_set q) (sinces xs) ≡ option_map (λ k. k.since) (lookup (is_set q) xs)
found_since q [] = refl
found_since q (x ∷ xs) = elim (cases_Bool (is_set q x.0)) [
  | inl y ↦ rw y refl
  | inr n ↦ rw n (found_since q xs)
]

pub keys_since : (xs : Alerts) → keys_of (sinces xs) ≡ keys_of xs
keys_since [] = refl
keys_since (x ∷ xs) = ap (λ ks. x.0 ∷ ks) (keys_since xs)

pub ordered_since : (xs : Alerts) → IsOrdered xs → IsOrdered (sinces xs)
ordered_since xs up = rw (keys_since xs) up

-- ---- alerts that are known

pub found_sooner : (m : ℕ) (q : List Label) (sets : List (List Label)) (xs : Alerts) → lookup (is_set q) (all_sooner m sets xs)
    ≡ option_map (sooner m (list_any (is_set q) sets)) (lookup (is_set q) xs)
unfolding all_sooner
found_sooner m q sets [] = refl
found_sooner m q sets (x ∷ xs) = elim (set_tells q x.0) [
  | inl y ↦ rw y.0 (ap (λ k. Some (sooner m (list_any (is_set k) sets) x.1)) (sym y.1))
  | inr n ↦ rw n.0 (found_sooner m q sets xs)
]

keys_sooner : (m : ℕ) (sets : List (List Label)) (xs : Alerts) → keys_of (all_sooner m sets xs) ≡ keys_of xs
unfolding all_sooner
keys_sooner m sets [] = refl
keys_sooner m sets (x ∷ xs) = ap (λ ks. x.0 ∷ ks) (keys_sooner m sets xs)

pub ordered_sooner : (m : ℕ) (sets : List (List Label)) (xs : Alerts) → IsOrdered xs → IsOrdered (all_sooner m sets xs)
ordered_sooner m sets xs up = rw (keys_sooner m sets xs) up

-- nothing comes
pub none_sooner : (m : ℕ) (xs : Alerts) → xs ≡ all_sooner m [] xs
unfolding all_sooner
none_sooner m [] = refl
none_sooner m (x ∷ xs) = ap (λ rest. x ∷ rest) (none_sooner m xs)

-- one more comes
pub sooner_more : (m : ℕ) (sets : List (List Label)) (l : List Label) (xs : Alerts) → all_sooner m (l ∷ []) (all_sooner m sets xs) ≡ all_sooner m (sets ++ l ∷ []) xs
unfolding all_sooner
sooner_more m sets l [] = refl
sooner_more m sets l (x ∷ xs) =
    ap (λ (k : Known). (x.0, k) ∷ all_sooner m (l ∷ []) (all_sooner m sets xs)) (twice (is_set x.0 l) (list_any (is_set x.0) sets) x.1 ∙ ap (λ b. sooner m b x.1) (sym (list_any-append (is_set x.0) sets (l ∷ []))))
    ∙ ap (λ rest. (x.0, sooner m (list_any (is_set x.0) (sets ++ l ∷ [])) x.1) ∷ rest) (sooner_more m sets l xs)
  where
    twice : (b c : Bool) (k : Known) → sooner m (b || false) (sooner m c k) ≡ sooner m (c || (b || false)) k
    twice true true k =
        let least : min m (min m k.since) ≡ min m k.since = omega arith in
        ap (λ s. let j : Known = record { since = s; groups = k.groups } in j) least
    twice true false k = refl
    twice false true k = refl
    twice false false k = refl

-- one that isn't known changes nothing
pub unknown_stays : (m : ℕ) (l : List Label) (xs : Alerts) → IsOrdered xs → lookup (is_set l) xs ≡ None → xs ≡ all_sooner m (l ∷ []) xs
unknown_stays m l xs up absent = same_found xs (all_sooner m (l ∷ []) xs) up (ordered_sooner m (l ∷ []) xs up) (λ q.
    elim (set_tells q l) [
      | inl y ↦
          let none : lookup (is_set q) xs ≡ None = ap (λ k. lookup (is_set k) xs) y.1 ∙ absent in
          none ∙ sym (found_sooner m q (l ∷ []) xs ∙ ap (option_map (sooner m (list_any (is_set q) (l ∷ [])))) none)
      | inr n ↦ sym (found_sooner m q (l ∷ []) xs ∙ ap (λ b. option_map (sooner m (b || false)) (lookup (is_set q) xs)) n.0 ∙ as_it_was (lookup (is_set q) xs))
    ])
  where
    as_it_was : (o : Option Known) → option_map (sooner m false) o ≡ o
    as_it_was None = refl
    as_it_was (Some k) = refl

-- one that is known is held since then at the latest
pub known_sooner : (m : ℕ) (l : List Label) (k : Known) (xs : Alerts) → IsOrdered xs → lookup (is_set l) xs ≡ Some k → put_in l (sooner m true k) xs ≡ all_sooner m (l ∷ []) xs
known_sooner m l k xs up there = same_found (put_in l (sooner m true k) xs) (all_sooner m (l ∷ []) xs) (ordered_put l (sooner m true k) xs up) (ordered_sooner m (l ∷ []) xs up) (λ q.
    found_put q l (sooner m true k) xs
    ∙ elim (set_tells q l) [
      | inl y ↦
          let here : lookup (is_set q) xs ≡ Some k = ap (λ r. lookup (is_set r) xs) y.1 ∙ there in
          rw y.0 (sym (found_sooner m q (l ∷ []) xs ∙ ap (λ b. option_map (sooner m (b || false)) (lookup (is_set q) xs)) y.0 ∙ ap (option_map (sooner m true)) here))
      | inr n ↦ rw n.0 (sym (found_sooner m q (l ∷ []) xs ∙ ap (λ b. option_map (sooner m (b || false)) (lookup (is_set q) xs)) n.0 ∙ as_it_was (lookup (is_set q) xs)))
    ])
  where
    as_it_was : (o : Option Known) → option_map (sooner m false) o ≡ o
    as_it_was None = refl
    as_it_was (Some j) = refl

-- where it came no sooner, nothing changes
pub known_stays : (m : ℕ) (l : List Label) (k : Known) (xs : Alerts) → IsOrdered xs → lookup (is_set l) xs ≡ Some k → k.since ≤ m → xs ≡ all_sooner m (l ∷ []) xs
known_stays m l k xs up there late =
    let same : Some k ≡ Some (sooner m true k) = ap (λ s. let j : Known = record { since = s; groups = k.groups } in Some j) (omega (arith, late)) in
    sym (put_same l (sooner m true k) xs up (there ∙ same)) ∙ known_sooner m l k xs up there

-- ---- alerts that aren't known

-- the label sets of these alerts
abbrev pub unknown_sets : List (List Label) → Alerts → List (List Label)
unknown_sets sets xs = filter (λ l. not (is_known l xs)) sets

pub any_unknown : (q : List Label) (sets : List (List Label)) (xs : Alerts) → list_any (is_set q) (unknown_sets sets xs) ≡ (list_any (is_set q) sets && not (is_known q xs))
any_unknown q [] xs = refl
any_unknown q (l ∷ sets) xs = elim (set_tells q l) [
  | inl y ↦ elim (cases_Bool (is_known q xs)) [
    | inl there ↦
        let known : is_known l xs ≡ true = ap (λ k. is_known k xs) (sym y.1) ∙ there in
        rw known (any_unknown q sets xs ∙ rw there (neither (list_any (is_set q) sets) (is_set q l || list_any (is_set q) sets)))
    | inr absent ↦
        let unknown : is_known l xs ≡ false = ap (λ k. is_known k xs) (sym y.1) ∙ absent in
        rw (unknown, y.0, absent) refl
  ]
  | inr n ↦ elim (cases_Bool (is_known l xs)) [
    | inl known ↦ rw (known, n.0) (any_unknown q sets xs)
    | inr unknown ↦ rw (unknown, n.0) (any_unknown q sets xs)
  ]
]
  where
    neither : (a b : Bool) → (a && false) ≡ (b && false)
    neither true true = refl
    neither true false = refl
    neither false true = refl
    neither false false = refl

-- others that came are known no more than before
pub known_still : (m : ℕ) (sets : List (List Label)) (l : List Label) (xs : Alerts) → is_known l (all_sooner m sets xs) ≡ is_known l xs
known_still m sets l xs = ap is_some (found_sooner m l sets xs) ∙ is_mapped (lookup (is_set l) xs)
  where
    is_mapped : (o : Option Known) → is_some (option_map (sooner m (list_any (is_set l) sets)) o) ≡ is_some o
    is_mapped None = refl
    is_mapped (Some k) = refl

-- none of them is known, also once the others came
pub none_known : (m : ℕ) (sets : List (List Label)) (came_sets : List (List Label)) (xs : Alerts) → list_any (λ a. is_known a.0 (all_sooner m came_sets xs)) (unknown_of m sets xs) ≡ false
unfolding unknown_of
none_known m [] came_sets xs = refl
none_known m (l ∷ sets) came_sets xs = elim (cases_Bool (is_known l xs)) [
  | inl known ↦ rw known (none_known m sets came_sets xs)
  | inr unknown ↦
      let still : is_known l (all_sooner m came_sets xs) ≡ false = known_still m came_sets l xs ∙ unknown in
      rw (unknown, still) (none_known m sets came_sets xs)
]

-- one more label set
pub one_unknown : (m : ℕ) (sets : List (List Label)) (l : List Label) (xs : Alerts) → is_known l xs ≡ false → unknown_of m sets xs ++ (l, m) ∷ [] ≡ unknown_of m (sets ++ l ∷ []) xs
unfolding unknown_of
one_unknown m [] l xs unknown = rw unknown refl
one_unknown m (k ∷ sets) l xs unknown = elim (cases_Bool (is_known k xs)) [
  | inl is ↦ rw is (one_unknown m sets l xs unknown)
  | inr new ↦ rw new (ap (λ rest. (k, m) ∷ rest) (one_unknown m sets l xs unknown))
]

pub no_unknown : (m : ℕ) (sets : List (List Label)) (l : List Label) (xs : Alerts) → is_known l xs ≡ true → unknown_of m sets xs ≡ unknown_of m (sets ++ l ∷ []) xs
unfolding unknown_of
no_unknown m [] l xs known = rw known refl
no_unknown m (k ∷ sets) l xs known = elim (cases_Bool (is_known k xs)) [
  | inl is ↦ rw is (no_unknown m sets l xs known)
  | inr new ↦ rw new (ap (λ rest. (k, m) ∷ rest) (no_unknown m sets l xs known))
]

-- ---- alerts that are put

pub ordered_all : (ps xs : Alerts) → IsOrdered xs → IsOrdered (put_all ps xs)
ordered_all [] xs up = up
ordered_all (p ∷ ps) xs up = ordered_all ps (put_in p.0 p.1 xs) (ordered_put p.0 p.1 xs up)

-- what is found after those that came were put
found_all : (c : Configuration) (m : ℕ) (q : List Label) (sets : List (List Label)) (xs : Alerts) → lookup (is_set q) (sinces (put_all (planned_alerts c (map (λ l. (l, m)) sets)) xs))
    ≡ cond (list_any (is_set q) sets) (Some m) (lookup (is_set q) (sinces xs))
unfolding planned_alerts
found_all c m q [] xs = refl
found_all c m q (l ∷ sets) xs =
    let known : Known = record { since = m; groups = groups_of c l } in
    found_all c m q sets (put_in l known xs)
    ∙ ap (cond (list_any (is_set q) sets) (Some m)) (found_since q (put_in l known xs) ∙ ap (option_map (λ k. k.since)) (found_put q l known xs))
    ∙ elim (set_tells q l) [
      | inl y ↦ rw y.0 (either (list_any (is_set q) sets))
      | inr n ↦ rw n.0 (ap (cond (list_any (is_set q) sets) (Some m)) (sym (found_since q xs)))
    ]
  where
    either : (b : Bool) → cond b (Some m) (Some m) ≡ Some m
    either true = refl
    either false = refl

-- ---- once all came

module _ (c : Configuration) (m : ℕ) (sets : List (List Label)) (xs : Alerts) (up : IsOrdered xs) where
  ordered_met : IsOrdered (met c m sets xs)
  unfolding met
  ordered_met = ordered_all (planned_alerts c (unknown_of m sets xs)) (all_sooner m sets xs) (ordered_sooner m sets xs up)

  found_met : (q : List Label) → lookup (is_set q) (sinces (met c m sets xs)) ≡ lookup (is_set q) (all_came m sets (sinces xs))
  unfolding met unknown_of
  found_met q =
      found_all c m q (unknown_sets sets xs) (all_sooner m sets xs)
      ∙ ap (λ b. cond b (Some m) (lookup (is_set q) (sinces (all_sooner m sets xs)))) (any_unknown q sets xs)
      ∙ ap (cond (list_any (is_set q) sets && not (is_known q xs)) (Some m)) (found_since q (all_sooner m sets xs) ∙ ap (option_map (λ k. k.since)) (found_sooner m q sets xs))
      ∙ by_known (list_any (is_set q) sets) (lookup (is_set q) xs)
      ∙ ap (λ o. cond (list_any (is_set q) sets) (Some (since_by m o)) o) (sym (found_since q xs))
      ∙ sym (found_came m q sets (sinces xs))
    where
      by_known : (b : Bool) (o : Option Known) → cond (b && not (is_some o)) (Some m) (option_map (λ k. k.since) (option_map (sooner m b) o))
          ≡ cond b (Some (since_by m (option_map (λ k. k.since) o))) (option_map (λ k. k.since) o)
      by_known true None = refl
      by_known true (Some k) = refl
      by_known false None = refl
      by_known false (Some k) = refl

  -- they are held since the least moment at which each came
  pub sinces_met : sinces (met c m sets xs) ≡ all_came m sets (sinces xs)
  sinces_met =
      same_found (sinces (met c m sets xs)) (all_came m sets (sinces xs)) (ordered_since (met c m sets xs) ordered_met) (ordered_came m sets (sinces xs) (ordered_since xs up)) found_met
