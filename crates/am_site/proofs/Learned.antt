-- An instance goes by another ring.
use Rattle.std.proofs.Common.{◌≡◌, ℕ, ◌<◌, ◌==◌, ◌&&◌, ◌||◌, Bool, true, false, not, List, [], ◌∷◌, ◌++◌, length, is_some, nat_cmp, arith, append-nil, ap, refl, sym, subst, ◌∙◌}
use Rattle.std.specs.List.{list_all}
use Rattle.std.specs.List.Sorted.{IsStrictlySortedBy}
use Rattle.std.specs.Map.{keys_of}
use Rattle.std.proofs.lemmas.Bool.{false≢true}
use Rattle.std.proofs.lemmas.Bool.Decides.{nat_tests}
use Rattle.am_cluster.specs.Here.{Here, is_replica_here}
use Rattle.am_cluster.specs.Local.{Local}
use Rattle.am_cluster.specs.Operating.{replicas_changed}
use Rattle.am_cluster.specs.Reactions.{Reaction, only_if, stays, ◌>>◌}
use Rattle.am_cluster.specs.RingChanges.{are_same, dropped, go_on, ring_learned}
use Rattle.am_context.proofs.Changes.{own}
use Rattle.am_item.specs.declared.fault.Fault.{Fault}
use Rattle.am_item.specs.declared.fault.Fault.TheVariants.{OutOfMemory, CountsExhausted, PatternNotBuilt, StoreRefused}
use Rattle.am_labels.specs.declared.Label.{Label}
use Rattle.am_node.specs.Accepting.{StopsPositioning}
use Rattle.am_node.specs.Held.{local_of as local_in_node}
use Rattle.am_node.specs.declared.parts.Parts.{Parts}
use Rattle.am_ring.specs.Instances.{is_among}
use Rattle.am_transfer.specs.Peers.{ByNumber}
use Rattle.am_transfer.specs.Settling.{Push, Settling}
use Rattle.am_site.specs.Here.{here_of}
use Rattle.am_site.specs.InOrder.{IsInOrder, IsSound}
use Rattle.am_site.specs.Learning.{IsIdle, MayLearn, StopsGoingOn, StopsLearning, stops_being_replica}
use Rattle.am_site.specs.Locals.{local_of}
use Rattle.am_site.specs.Reacting.{Moves, MovesInSilence, Reacts}
use Rattle.am_site.specs.declared.here.Here.{Here as Given}
use Rattle.am_site.specs.declared.said.Said.{Said as Spoken}
use Rattle.am_site.specs.declared.site.Site.{Site}
use Rattle.am_site.proofs.Changed.{none_open, only_operations}
use Rattle.am_site.proofs.Entered.{there_before}
use Rattle.am_site.proofs.Moving.{in_turn_moves, moves, moves_from, stops_after}
use Rattle.am_site.proofs.Reacting.{and_true, stops_from}
use Rattle.am_site.proofs.Sound.{only_if_sound, replicas_changed_sound}
use Rattle.am_site.proofs.SoundRing.{dropped_sound}

-- ---- who is among the three

left_of : (a b : Bool) → (a && b) ≡ true → a ≡ true
left_of true b is = refl
left_of false b is = is

right_of : (a b : Bool) → (a && b) ≡ true → b ≡ true
right_of true b is = is
right_of false b is = absurd (false≢true is)

-- what all of a list have, each of it has
among_all : (p : ℕ → Bool) (i : ℕ) (xs : List ℕ) → list_all p xs ≡ true → is_among i xs ≡ true → p i ≡ true
among_all p i [] all among = absurd (false≢true among)
among_all p i (x ∷ xs) all among = by (i == x) refl among (λ rest. among_all p i xs (right_of (p x) (list_all p xs) all) rest)
  where
    same_number : (a b : ℕ) → (a == b) ≡ true → b ≡ a
    same_number a b is = grind (arith, nat_tests)

    by : (b : Bool) → (i == x) ≡ b → (b || is_among i xs) ≡ true → (is_among i xs ≡ true → p i ≡ true) → p i ≡ true
    by true is rest behind = subst (λ n. p n ≡ true) (same_number i x is) (left_of (p x) (list_all p xs) all)
    by false is rest behind = behind rest

module _ (here : Here) (before : List ℕ) where
  -- open operations are over, where the three are others
  abbrev pub ends : Local → Reaction
  ends = only_if (not (are_same before here.three)) replicas_changed

  pub ends_none : (l : Local) → are_same before here.three ≡ true → ends l ≡ stays l
  ends_none l is = rw is refl

  pub ends_all : (l : Local) → are_same before here.three ≡ false → replicas_changed l ≡ ends l
  ends_all l apart = rw apart refl

  -- they are others where the instance isn't one of them any more
  pub ended : (l : Local) → is_replica_here here ≡ false → is_among here.instance before ≡ true → (ends l).local.operations ≡ []
  ended l none was = by (are_same before here.three) refl
    where
      by : (b : Bool) → are_same before here.three ≡ b → (only_if (not b) replicas_changed l).local.operations ≡ []
      by true is =
          absurd (false≢true (sym none ∙ among_all (λ i. is_among i here.three) here.instance before
          (left_of (list_all (λ i. is_among i here.three) before) (list_all (λ i. is_among i before) here.three) is) was))
      by false is = none_open l

  -- .. and nothing else changes
  pub ends_alone : (l : Local) → ((ends l).local.sinces ≡ l.sinces) × ((ends l).local.settling ≡ l.settling)
  ends_alone l = by (are_same before here.three)
    where
      by : (b : Bool) → ((only_if (not b) replicas_changed l).local.sinces ≡ l.sinces) × ((only_if (not b) replicas_changed l).local.settling ≡ l.settling)
      by true = (refl, refl)
      by false = (ap (λ (m : Local). m.sinces) (only_operations l), ap (λ (m : Local). m.settling) (only_operations l))

  -- ---- what it comes to

  then_stays : (r : Reaction) → (let whole : Reaction = record { local = r.local; said = r.said ++ []; fits = r.fits && true } in whole) ≡ r
  then_stays r =
      ap (λ said. let whole : Reaction = record { local = r.local; said = said; fits = r.fits && true } in whole) (append-nil r.said)
      ∙ ap (λ b. let whole : Reaction = record { local = r.local; said = r.said; fits = b } in whole) (and_true r.fits)

  learned_as_replica : (l : Local) → is_replica_here here ≡ true → (ends >> go_on here before) l ≡ ring_learned here before l
  unfolding ring_learned
  learned_as_replica l replica = rw replica refl

  learned_elsewhere : (l : Local) → is_replica_here here ≡ false → is_among here.instance before ≡ false → ends l ≡ ring_learned here before l
  unfolding ring_learned
  learned_elsewhere l none none_before = rw (none, none_before) (sym (then_stays (ends l)))

  learned_as_other : (l : Local) → is_replica_here here ≡ false → is_among here.instance before ≡ true
      → (ends >> (λ m. stays (dropped m))) l ≡ ring_learned here before l
  unfolding ring_learned
  learned_as_other l none was = rw (none, was) refl

-- it stops being one of the three
pub stops_being : (given : Given) (before : List ℕ) → is_replica_here (here_of given) ≡ false → is_among given.instance before ≡ true
    → stops_being_replica (here_of given) before ≡ true
stops_being given before none was = rw (none, was) refl

-- ---- a tenant that is elsewhere

pub ends_away : (here : Here) (before : List ℕ) (l : Local) → IsIdle l → IsIdle (ends here before l).local
ends_away here before l away =
    let alone = ends_alone here before l in
    record {
      sinces = alone.0 ∙ away.sinces;
      pushes = ap (λ (s : Settling). s.pushes) alone.1 ∙ away.pushes;
      asked = ap (λ (s : Settling). s.asked_at) alone.1 ∙ away.asked;
    }

pub dropped_away : (l : Local) → IsIdle (dropped l)
unfolding dropped
dropped_away l = record { sinces = refl; pushes = refl; asked = refl }

-- .. is elsewhere under another ring too, where the instance is none of the three
pub learned_away : (here : Here) (before : List ℕ) (l : Local) → is_replica_here here ≡ false → (is_among here.instance before ≡ false → IsIdle l)
    → IsIdle (ring_learned here before l).local
learned_away here before l none away = by (is_among here.instance before) refl
  where
    by : (b : Bool) → is_among here.instance before ≡ b → IsIdle (ring_learned here before l).local
    by true among = subst (λ (r : Reaction). IsIdle r.local) (learned_as_other here before l none among) (dropped_away (ends here before l).local)
    by false none_before =
        subst (λ (r : Reaction). IsIdle r.local) (learned_elsewhere here before l none none_before) (ends_away here before l (away none_before))

-- .. and is in order, where that was sound
away_in_order : (was here : Here) (site : Site) → IsIdle (local_of here.tenant site) → IsSound was (local_of here.tenant site) → IsInOrder here site
unfolding IsStrictlySortedBy
away_in_order was here site away sound = record {
  position = λ some. absurd (none_below (subst (λ (xs : List (List Label × ℕ)). 0 < length xs) away.sinces some));
  asked = λ some. absurd (false≢true (sym (ap is_some away.asked) ∙ some));
  sound = record {
    numbered = sound.numbered;
    used = sound.used;
    pushes = subst (λ (es : ByNumber Push). IsStrictlySortedBy nat_cmp (keys_of es)) (sym away.pushes) tt;
    apart = λ unsettled. away.pushes;
    quiet = λ settled. away.asked;
  };
}
  where
    none_below : 0 < 0 → ⊥
    none_below some = omega arith

-- ---- what it does

module _ (given : Given) (before : List ℕ) (old mid : Site) (x y : List Spoken) (answers : Reacts given.tenant.now (ends (here_of given) before) old mid x y) where
  abbrev t : List ℕ
  t = given.tenant.now

  abbrev here : Here
  here = here_of given

  abbrev l : Local
  l = local_of t old

  made : local_of t mid ≡ (ends here before l).local
  made = own t _ _ _ (answers.local t)

  sound_before : (was : Here) → MayLearn was here before old → IsSound was l
  sound_before was may = subst (λ (s : List ℕ). IsSound was (local_of s old)) may.tenant may.order.sound

  pub sound_then : (was : Here) → MayLearn was here before old → IsSound was (local_of t mid)
  sound_then was may =
      subst (IsSound was) (sym made)
      (only_if_sound was (not (are_same before here.three)) replicas_changed (replicas_changed_sound was) l (sound_before was may))

  -- ---- a replica goes on

  module _ (replica : is_replica_here here ≡ true) where
    pub learns_as_replica : (new : Site) (z : List Spoken) → Moves t (go_on here before) mid new y z → Moves t (ring_learned here before) old new x z
    learns_as_replica new z goes =
        moves_from t (ends here before >> go_on here before) (ring_learned here before) old (learned_as_replica here before l replica) new x z
        (in_turn_moves t (ends here before) (go_on here before) old mid x y (moves t (ends here before) old mid x y answers) new z goes)

    pub stops_as_replica : (refused : List (List ℕ)) (fault : Fault) → mid.node ≡ old.node → mid.settling ≡ old.settling
        → StopsGoingOn refused given before mid fault → StopsLearning refused given before old fault
    stops_as_replica refused OutOfMemory node room stops = tt
    stops_as_replica refused CountsExhausted node room stops =
        stops_from t (ends here before >> go_on here before) (ring_learned here before) old (learned_as_replica here before l replica) CountsExhausted
        (stops_after t (ends here before) (go_on here before) old mid x y (moves t (ends here before) old mid x y answers) CountsExhausted stops)
    stops_as_replica refused PatternNotBuilt node room (apart, stops) = (
      replica,
      (λ at. apart (there_before here old mid node room at), subst (λ (n : Parts). StopsPositioning refused (local_in_node t n) PatternNotBuilt) node stops),
    )
    stops_as_replica refused StoreRefused node room stops = absurd stops

  -- ---- it is none of the three

  module _ (none : is_replica_here here ≡ false) where
    pub learns_elsewhere : is_among here.instance before ≡ false → Moves t (ring_learned here before) old mid x y
    learns_elsewhere none_before =
        moves_from t (ends here before) (ring_learned here before) old (learned_elsewhere here before l none none_before) mid x y
        (moves t (ends here before) old mid x y answers)

    pub elsewhere_in_order : is_among here.instance before ≡ false → (was : Here) → MayLearn was here before old → IsInOrder here mid
    elsewhere_in_order none_before was may =
        away_in_order was here mid (subst IsIdle (sym made) (ends_away here before l (may.idle none none_before))) (sound_then was may)

    module _ (among : is_among here.instance before ≡ true) where
      pub none_open_then : (local_of t mid).operations ≡ []
      none_open_then = ap (λ (m : Local). m.operations) made ∙ ended here before l none among

      module _ (new : Site) (silent : MovesInSilence t (λ m. stays (dropped m)) mid new) where
        pub learns_dropped : Moves t (ring_learned here before) old new x y
        learns_dropped =
            moves_from t (ends here before >> (λ m. stays (dropped m))) (ring_learned here before) old (learned_as_other here before l none among) new x y
            (in_turn_moves t (ends here before) (λ m. stays (dropped m)) old mid x y (moves t (ends here before) old mid x y answers) new y (silent y))

        pub dropped_in_order : IsInOrder here new
        dropped_in_order =
            let gone : local_of t new ≡ dropped (local_of t mid) = own t _ _ _ ((silent []).local t) in
            away_in_order here here new (subst IsIdle (sym gone) (dropped_away (local_of t mid))) (subst (IsSound here) (sym gone) (dropped_sound here here (local_of t mid)))
