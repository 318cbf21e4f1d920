-- What mutes the alert at each place.
use Rattle.std.proofs.Common.{◌≡◌, ℕ, zero, suc, ◌+◌, ◌<◌, ◌==◌, ◌&&◌, true, false, List, [], ◌∷◌, ◌++◌, Bor, inl, inr, length, map, drop, get_or, refl, sym, ap, ap₂, ◌∙◌, arith, append-nil, length-append, length-drop, true≢false, Bool, filter}
use Rattle.std.proofs.lemmas.Bool.{and_parts}
use Rattle.std.proofs.lemmas.Bool.Decides.{eqb_tells}
use Rattle.std.proofs.lemmas.Simd.{map-map}
use Rattle.std.proofs.lemmas.List.{get_or-drop, length-map, nil_from_length}
use Rattle.am_labels.specs.declared.Label.{Label}
use Rattle.am_item.specs.declared.item.Alert.{Alert}
use Rattle.am_item.specs.declared.item.Item.{Item}
use Rattle.am_item.specs.declared.stamp.Stamped.{Stamped}
use Rattle.am_alert.specs.Held.{firing}
use Rattle.am_alert.specs.HeldAlert.{held_alert}
use Rattle.am_alert.specs.declared.held.HeldAlert.{HeldAlert}
use Rattle.am_config.specs.Configuration.{Configuration}
use Rattle.am_config.specs.declared.parts.Rule.{Rule}
use Rattle.am_silence.specs.Held.{active_among, silencing, taking}
use Rattle.am_inhibit.specs.Inhibits.{inhibitor_places, inhibitors}
use Rattle.am_inhibit.proofs.InhibitorLemmas.{inhibitors_at}
use Rattle.am_muting.specs.Asked.{sources_by, sources_of}
use Rattle.am_muting.specs.Mutes.{AreEach, muting_at, mutings}
use Rattle.am_muting.specs.Muting.{Muting, alert_sets, firing_sets, is_muted, muted_sets, muting_by, muting_of, nothing}

-- ---- each place

-- there are as many as there are lists of silences
pub mutings_long : (firing : List (List Label)) (silences : List (List (List ℕ))) (places : List (List ℕ)) → length places ≡ length silences →
    length (mutings firing silences places) ≡ length silences
mutings_long firing [] [] same = refl
mutings_long firing [] (p ∷ places) same = absurd (omega (arith, same))
mutings_long firing (s ∷ silences) [] same = absurd (omega (arith, same))
mutings_long firing (s ∷ silences) (p ∷ places) same = ap suc (mutings_long firing silences places (omega (arith, same)))

-- the one at a place
pub mutings_at : (firing : List (List Label)) (silences : List (List (List ℕ))) (places : List (List ℕ)) (k : ℕ) → length places ≡ length silences →
    get_or (mutings firing silences places) k nothing ≡ muting_at firing (get_or silences k [], get_or places k [])
mutings_at firing [] [] k same = refl
mutings_at firing [] (p ∷ places) k same = absurd (omega (arith, same))
mutings_at firing (s ∷ silences) [] k same = absurd (omega (arith, same))
mutings_at firing (s ∷ silences) (p ∷ places) zero same = refl
mutings_at firing (s ∷ silences) (p ∷ places) (suc k) same = mutings_at firing silences places k (omega (arith, same))

dropped : (first : ℕ) (silences : List (List (List ℕ))) (inhibited : List (List ℕ)) → length inhibited ≡ first + length silences → length (drop first inhibited) ≡ length silences
dropped first silences inhibited e = let l = length-drop first inhibited in omega (arith, l, e)

module _ (firing : List (List Label)) (count first : ℕ) (silences : List (List (List ℕ))) (inhibited : List (List ℕ)) (view : List Muting) (place : ℕ)
    (is : mutings firing silences (drop first inhibited) ≡ view) (each : AreEach count first silences inhibited) where
  pub within_silences : place < length view → place < length silences
  within_silences within =
      let all = ap length is in
      let long = mutings_long firing silences (drop first inhibited) (dropped first silences inhibited each.each) in
      omega (arith, within, all, long)

  pub within_inhibited : place < length view → first + place < length inhibited
  within_inhibited within = let below = within_silences within in let e = each.each in omega (arith, below, e)

  pub muting_here : get_or view place nothing ≡ muting_at firing (get_or silences place [], get_or inhibited (first + place) [])
  muting_here =
      ap (λ v. get_or v place nothing) (sym is)
      ∙ mutings_at firing silences (drop first inhibited) place (dropped first silences inhibited each.each)
      ∙ ap (λ places. muting_at firing (get_or silences place [], places)) (get_or-drop first inhibited place [])

-- ---- what mutes each

-- there are as many
pub each_behind : {X : Type 0} (firing targets : List X) (f : X → List ℕ) (g : X → List (List ℕ)) (silences : List (List (List ℕ))) (places : List (List ℕ)) →
    silences ≡ map g targets → places ≡ map f (firing ++ targets) → length places ≡ length firing + length silences
each_behind firing targets f g silences places silenced inhibits =
    ap length inhibits ∙ length-map (firing ++ targets) f ∙ length-append firing targets
    ∙ ap (λ n. length firing + n) (sym (length-map targets g) ∙ sym (ap length silenced))

each_muting : (c : Configuration) (moment : ℕ) (held : List Item) (firing : List (List Label)) (targets : List (Bor (List Label))) →
    mutings firing (map (λ (set' : Bor (List Label)). silencing moment held set'.now) targets) (map (λ (set' : Bor (List Label)). inhibitor_places c.rules firing set'.now) targets)
    ≡ map (λ (set' : Bor (List Label)). muting_by c moment held firing set'.now) targets
each_muting c moment held firing [] = refl
each_muting c moment held firing (t ∷ targets) =
    ap₂ (λ (first : Muting) rest. first ∷ rest)
    (ap (λ (sets : List (List Label)). let m : Muting = record { silenced_by = silencing moment held t.now; inhibited_by = sets } in m) (inhibitors_at c.rules firing t.now))
    (each_muting c moment held firing targets)

-- without a rule no alert inhibits another
none_inhibits : (sets : List (List Label)) (target : List Label) → inhibitors [] sets target ≡ []
none_inhibits [] target = refl
none_inhibits (s ∷ sets) target = none_inhibits sets target

inhibitors_same : (rules : List Rule) (sets : List (List Label)) (target : List Label) → inhibitors rules (sources_by rules sets) target ≡ inhibitors rules sets target
inhibitors_same [] sets target = sym (none_inhibits sets target)
inhibitors_same (rule ∷ rules) sets target = refl

-- all that fire are sources where there is a rule
pub sources_are : (c : Configuration) (moment : ℕ) (held : List Item) (alerts : List HeldAlert) → map held_alert alerts ≡ firing moment held → (length c.rules == 0) ≡ false →
    map (λ (a : HeldAlert). a.labels.now) alerts ≡ sources_of c moment held
sources_are c moment held alerts fires some =
    sym (map-map (λ (a : Stamped Alert). a.value.labels) held_alert alerts) ∙ ap (map (λ (a : Stamped Alert). a.value.labels)) fires ∙ by_rules c.rules some
  where
    by_rules : (rules : List Rule) → (length rules == 0) ≡ false → firing_sets moment held ≡ sources_by rules (firing_sets moment held)
    by_rules [] none = absurd (true≢false none)
    by_rules (rule ∷ rules) there = refl

-- so the sources are enough
pub enough : (c : Configuration) (moment : ℕ) (held : List Item) (targets : List (Bor (List Label))) →
    map (λ (set' : Bor (List Label)). muting_by c moment held (sources_of c moment held) set'.now) targets
    ≡ map (λ (set' : Bor (List Label)). muting_of c moment held set'.now) targets
unfolding muting_of
enough c moment held [] = refl
enough c moment held (t ∷ targets) =
    ap₂ (λ (first : Muting) rest. first ∷ rest)
    (ap (λ (sets : List (List Label)). let m : Muting = record { silenced_by = silencing moment held t.now; inhibited_by = sets } in m)
    (inhibitors_same c.rules (firing_sets moment held) t.now))
    (enough c moment held targets)

pub of_firing : (c : Configuration) (moment : ℕ) (held : List Item) (targets : List (Bor (List Label))) →
    map (λ (set' : Bor (List Label)). muting_by c moment held (firing_sets moment held) set'.now) targets
    ≡ map (λ (set' : Bor (List Label)). muting_of c moment held set'.now) targets
unfolding muting_of
of_firing c moment held [] = refl
of_firing c moment held (t ∷ targets) = ap (λ rest. muting_of c moment held t.now ∷ rest) (of_firing c moment held targets)

-- the lists behind those of the firing ones
behind : {X Y : Type 0} (f : X → Y) (xs ys : List X) → drop (length xs) (map f (xs ++ ys)) ≡ map f ys
behind f [] ys = refl
behind f (x ∷ xs) ys = behind f xs ys

pub muting_behind : (c : Configuration) (moment : ℕ) (held : List Item) (firing targets : List (Bor (List Label))) (silences : List (List (List ℕ))) (places : List (List ℕ)) →
    silences ≡ map (λ (set' : Bor (List Label)). silencing moment held set'.now) targets →
    places ≡ map (λ (target : Bor (List Label)). inhibitor_places c.rules (map (λ (set' : Bor (List Label)). set'.now) firing) target.now) (firing ++ targets) →
    mutings (map (λ (set' : Bor (List Label)). set'.now) firing) silences (drop (length firing) places)
    ≡ map (λ (set' : Bor (List Label)). muting_by c moment held (map (λ (other : Bor (List Label)). other.now) firing) set'.now) targets
muting_behind c moment held firing targets silences places silenced inhibits =
    let sets = map (λ (set' : Bor (List Label)). set'.now) firing in
    ap₂ (mutings sets) silenced (ap (drop (length firing)) inhibits ∙ behind (λ (target : Bor (List Label)). inhibitor_places c.rules sets target.now) firing targets)
    ∙ each_muting c moment held sets targets

pub muting_first : (c : Configuration) (moment : ℕ) (held : List Item) (firing : List (Bor (List Label))) (silences : List (List (List ℕ))) (places : List (List ℕ)) →
    silences ≡ map (λ (set' : Bor (List Label)). silencing moment held set'.now) firing →
    places ≡ map (λ (target : Bor (List Label)). inhibitor_places c.rules (map (λ (set' : Bor (List Label)). set'.now) firing) target.now) (firing ++ []) →
    mutings (map (λ (set' : Bor (List Label)). set'.now) firing) silences (drop 0 places)
    ≡ map (λ (set' : Bor (List Label)). muting_by c moment held (map (λ (other : Bor (List Label)). other.now) firing) set'.now) firing
muting_first c moment held firing silences places silenced inhibits =
    let sets = map (λ (set' : Bor (List Label)). set'.now) firing in
    ap₂ (mutings sets) silenced (inhibits ∙ ap (map (λ (target : Bor (List Label)). inhibitor_places c.rules sets target.now)) (append-nil firing))
    ∙ each_muting c moment held sets firing

-- ---- where all is quiet

none_silences : (moment : ℕ) (held : List Item) (labels : List Label) → length (active_among moment held) ≡ 0 → silencing moment held labels ≡ []
unfolding silencing
none_silences moment held labels none = ap (λ active. taking active labels) (nil_from_length (active_among moment held) none)

quiet_parts : (m n : ℕ) → (m == 0 && n == 0) ≡ true → (m ≡ 0) × (n ≡ 0)
quiet_parts m n h = let parts = and_parts (m == 0) (n == 0) h in (is_zero m parts.0, is_zero n parts.1)
  where
    is_zero : (k : ℕ) → (k == 0) ≡ true → k ≡ 0
    is_zero k e = elim (eqb_tells k 0) [ inl same ↦ same.1 | inr other ↦ absurd (true≢false (sym e ∙ other.0)) ]

not_muted : (c : Configuration) (moment : ℕ) (held : List Item) (labels : List Label) → length (active_among moment held) ≡ 0 → length c.rules ≡ 0 →
    is_muted (muting_of c moment held labels) ≡ false
unfolding muting_of
not_muted c moment held labels quiet bare =
    let silent = none_silences moment held labels quiet in
    let free : inhibitors c.rules (firing_sets moment held) labels ≡ [] =
    ap (λ rules. inhibitors rules (firing_sets moment held) labels) (nil_from_length c.rules bare) ∙ none_inhibits (firing_sets moment held) labels in
    rw (silent, free) refl

none_kept : {X : Type 0} (p : X → Bool) (xs : List X) → ((x : X) → p x ≡ false) → filter p xs ≡ []
none_kept p [] none = refl
none_kept p (x ∷ xs) none = let first = none x in rw first (none_kept p xs none)

-- nothing is muted then
pub quiet_sets : (c : Configuration) (moment : ℕ) (held : List Item) → (length (active_among moment held) == 0 && length c.rules == 0) ≡ true → muted_sets c moment held ≡ []
unfolding muted_sets
quiet_sets c moment held quiet =
    let parts = quiet_parts (length (active_among moment held)) (length c.rules) quiet in
    none_kept (λ labels. is_muted (muting_of c moment held labels)) (alert_sets held) (λ labels. not_muted c moment held labels parts.0 parts.1)
