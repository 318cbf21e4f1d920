-- Joins, leaves, crashes and restarts in a calm view: which events of the machine they are.
use Rattle.std.proofs.Common.{◌≡◌, ℕ, suc, ◌<◌, ◌≤◌, Bool, true, false, not, ◌&&◌, ◌||◌, if◌then◌else◌, ◌⊎◌, inl, inr, List, [], ◌∷◌, refl, subst, sym, ap, arith, ◌∙◌}
use Rattle.std.specs.Prelude.{◌==◌}
use Rattle.am_stays.specs.Places.{Place, same}
use Rattle.am_stays.proofs.Phases.{Phase, Whole, Down, Unsettled}
use Rattle.am_stays.proofs.Machine.{Facts, World, Event, Replace, Crash, Restart, Drop_out, goes_by, happens, run}
use Rattle.am_stays.specs.Shadow.{Shadow, after_join, after_leave, after_crash, after_epoch, after_rise}
use Rattle.am_stays.proofs.Tied.{Tied, States, AreReady, IsNew}
use Rattle.am_stays.proofs.Tables.{and_right, or_left, or_right, apart, decide, same_is, same_refl, eq_is, eq_refl, eq_true, not_eq, if_true, if_false, and_false, differ}
use Rattle.am_stays.proofs.TiedRequests.{there}
use Rattle.am_stays.proofs.GoingBy.{not_down, not_placed, not_lost}
use Rattle.am_stays.proofs.Members.{find_place}
use Rattle.am_stays.proofs.Events.{Now, Lost, Stays, goes_cases}
use Rattle.am_stays.proofs.TiedRings.{tied-replace, tied-other, tied-out}
use Rattle.am_stays.proofs.TiedRestarts.{tied-crash, tied-back, tied-arrive}
use Rattle.am_stays.proofs.Runs.{Fine}

-- the machine is whole where the cluster is calm
pub whole : (s : Shadow) (p : Phase) (w : Facts) → Tied s (record { phase = p; facts = w }) → AreReady s w.era → p ≡ Whole
whole s Whole w d c = refl
whole s (Down r) w d c =
    let k : w.knows r ≡ true = d.links.knows r ∙ eq_true (s.era_of (s.known (s.member w.era r))) w.era (c.known r) in
    apart (not (same r r)) (d.links.here r k ∙ c.up r) (rw (same_refl r))
whole s (Unsettled r) w d c =
    let on : goes_by (Unsettled r) w w.era r ≡ true = there s (record { phase = Unsettled r; facts = w }) w.era r (s.member w.era r) d (omega arith) refl (c.up r) (c.known r) in
    let v : (not (same r r) || not (w.era == w.era)) ≡ true = and_right (goes_by (Unsettled r) w w.era r) (not (same r r) || not (w.era == w.era)) (d.settles w.era r on (c.settled r)) in
    apart (not (same r r) || not (w.era == w.era)) v (rw (same_refl r, eq_refl w.era))

pub tied-join : (s : Shadow) (w : Facts) (r : Place) (i e : ℕ) → Fine (record { phase = Whole; facts = w }) → Tied s (record { phase = Whole; facts = w }) → AreReady s w.era → IsNew s w.era e → s.up i ≡ false → Tied (after_join s w.era r i e) (happens (record { phase = Whole; facts = w }) (Replace r true))
tied-join s w r i e f d c n down =
    tied-replace s w r i e true (λ k. if k == i then e else s.known k) (λ k. if k == i then suc (s.incarnation i) else s.incarnation k) (λ k. if k == i then 0 else s.held k) (λ k. (k == i) || s.up k) (λ k. not (k == i) && s.settled k) (λ k l o. not (k == i) && s.taken k l o) f d n.eras n.asked n.cut new
    (λ k h. ap (eras_ e) (if_false (k == i) e (s.known k) (differ k i h)) ∙ if_false (s.known k == e) (suc w.era) (s.era_of (s.known k)) (n.known k))
    (omega (arith, later, n.eras (s.known i)))
    (eq_true (eras_ e (if i == i then e else s.known i)) (suc w.era) later)
    (λ k h g. ap (λ b. b || s.up k) (differ k i h))
    (or_right (s.member w.era r == i) (s.up (s.member w.era r)) (c.up r))
    (λ h. or_left (i == i) (s.up i) (eq_refl i))
    (λ g h. and_false ((i == i) || s.up i) (eras_ e (if i == i then e else s.known i) == g) (differ (eras_ e (if i == i then e else s.known i)) g (λ x. absurd (omega (arith, x, later, h)))) ∙ sym (ap (λ b. b && (s.era_of (s.known i) == g)) down))
    (λ h. rw (eq_refl i))
    (λ k h. if_false (k == i) 0 (s.held k) (differ k i h))
    (λ h. if_true (i == i) 0 (s.held i) (eq_refl i))
    (λ h. apart true refl h)
    (λ h l o. rw (eq_refl i))
  where
    eras_ : ℕ → ℕ → ℕ
    eras_ e f = if f == e then suc w.era else s.era_of f

    later : (if (if i == i then e else s.known i) == e then suc w.era else s.era_of (if i == i then e else s.known i)) ≡ suc w.era
    later = ap (λ k. if k == e then suc w.era else s.era_of k) (if_true (i == i) e (s.known i) (eq_refl i)) ∙ if_true (e == e) (suc w.era) (s.era_of e) (eq_refl e)

    new : (q : Place) → s.member w.era q ≡ i → ⊥
    new q h = apart (s.up i) (subst (λ k. s.up k ≡ true) h (c.up q)) down

pub tied-leave : (s : Shadow) (w : Facts) (r : Place) (i e : ℕ) → Fine (record { phase = Whole; facts = w }) → Tied s (record { phase = Whole; facts = w }) → AreReady s w.era → IsNew s w.era e → ((q : Place) → s.member w.era q ≡ i → ⊥) → Tied (after_leave s w.era r i e) (happens (record { phase = Whole; facts = w }) (Replace r false))
tied-leave s w r i e f d c n new =
    tied-replace s w r i e false s.known s.incarnation s.held (λ k. not (k == s.member w.era r) && s.up k) s.settled s.taken f d n.eras n.asked n.cut new
    (λ k h. same_era k)
    (omega (arith, same_era i))
    (not_eq (eras_ (s.known i)) (suc w.era) (omega (arith, same_era i, n.eras (s.known i))))
    (λ k h g. ap (λ b. not b && s.up k) (differ k (s.member w.era r) g))
    (rw (eq_refl (s.member w.era r)))
    (λ h. apart false h refl)
    (λ g h. ap (λ b. (not b && s.up i) && (eras_ (s.known i) == g)) (differ i (s.member w.era r) (λ x. new r (sym x))) ∙ ap (λ m. s.up i && (m == g)) (same_era i))
    (λ h. apart true refl (sym h)) (λ k h. refl) (λ h. apart true refl (sym h)) (λ h. refl) (λ h l o. apart true refl (sym h))
  where
    eras_ : ℕ → ℕ
    eras_ f = if f == e then suc w.era else s.era_of f

    same_era : (k : ℕ) → (if s.known k == e then suc w.era else s.era_of (s.known k)) ≡ s.era_of (s.known k)
    same_era k = if_false (s.known k == e) (suc w.era) (s.era_of (s.known k)) (n.known k)

-- one of the three crashes
pub tied-fail : (s : Shadow) (w : Facts) (r : Place) → Fine (record { phase = Whole; facts = w }) → Tied s (record { phase = Whole; facts = w }) → AreReady s w.era → Tied (after_crash s (s.member w.era r)) (happens (record { phase = Whole; facts = w }) (Crash r))
tied-fail s w r f d c =
    tied-crash s w r (λ k. if k == j then 0 else s.held k) (λ k. not (k == j) && s.up k) (λ k. not (k == j) && s.settled k) (λ k l o. not (k == j) && s.taken k l o) f d
    (rw (eq_refl j))
    (λ q h. ap (λ b. not b && s.up (s.member w.era q)) (differ (s.member w.era q) j (λ x. apart (same q r) (d.links.distinct w.era q r (omega arith) x) h)))
    (λ g h. old g h)
    (λ k h. if_false (k == j) 0 (s.held k) (differ k j h))
  where
    j : ℕ
    j = s.member w.era r

    old : (g : ℕ) → g < w.era → ((not (s.member g (w.changed (suc g)) == j) && s.up (s.member g (w.changed (suc g)))) && (s.era_of (s.known (s.member g (w.changed (suc g)))) == g)) ≡ (s.up (s.member g (w.changed (suc g))) && (s.era_of (s.known (s.member g (w.changed (suc g)))) == g))
    old g h =
        elim (decide (s.member g (w.changed (suc g)) == j)) [
          | inr x ↦ ap (λ b. (not b && s.up (s.member g (w.changed (suc g)))) && (s.era_of (s.known (s.member g (w.changed (suc g)))) == g)) x
          | inl x ↦
              let y : (s.era_of (s.known (s.member g (w.changed (suc g)))) == g) ≡ false = differ (s.era_of (s.known (s.member g (w.changed (suc g))))) g (λ z. absurd (omega (arith, z, h, ap (λ k. s.era_of (s.known k)) (eq_is (s.member g (w.changed (suc g))) j x), c.known r))) in
              and_false (not (s.member g (w.changed (suc g)) == j) && s.up (s.member g (w.changed (suc g)))) (s.era_of (s.known (s.member g (w.changed (suc g)))) == g) y ∙ sym (and_false (s.up (s.member g (w.changed (suc g)))) (s.era_of (s.known (s.member g (w.changed (suc g)))) == g) y)
        ]

-- it comes back with nothing, by the present epoch e; the operations of the present era are refused
abbrev restarted-with : Shadow → ℕ → ℕ → (ℕ → Bool) → (ℕ → Bool) → Shadow
restarted-with s j e undecided waiting =
    record s {
      known = λ k. if k == j then e else s.known k;
      incarnation = λ k. if k == j then suc (s.incarnation j) else s.incarnation k;
      held = λ k. if k == j then 0 else s.held k;
      up = λ k. (k == j) || s.up k;
      settled = λ k. not (k == j) && s.settled k;
      undecided = undecided;
      waiting = waiting;
      taken = λ k l o. not (k == j) && s.taken k l o;
    }

-- one of the three, which is down, is restarted
pub tied-return : (s : Shadow) (p : Phase) (w : Facts) (r : Place) (e : ℕ) (undecided waiting : ℕ → Bool) → Fine (record { phase = p; facts = w }) → Tied s (record { phase = p; facts = w }) → s.up (s.member w.era r) ≡ false → s.era_of e ≡ w.era → ((k f : ℕ) → s.cut k f (s.member w.era r) (suc (s.incarnation (s.member w.era r))) ≡ false) → ((n : ℕ) → undecided n ≡ true → (s.undecided n ≡ true) × ((w.request_era n == w.era) ≡ false)) → ((x : ℕ) → waiting x ≡ true → (s.waiting x ≡ true) × ((w.write_era x == w.era) ≡ false)) → Tied (restarted-with s (s.member w.era r) e undecided waiting) (happens (record { phase = p; facts = w }) Restart)
tied-return s p w r e undecided waiting f d down era new C1 C2 = go p f d
  where
    j : ℕ
    j = s.member w.era r

    known : ℕ → ℕ
    known k = if k == j then e else s.known k

    later : (m : ℕ) → m ≡ j → s.era_of (if m == j then e else s.known m) ≡ w.era
    later m h = ap s.era_of (if_true (m == j) e (s.known m) (eq_true m j h)) ∙ era

    others : (m : ℕ) → (m ≡ j → ⊥) → s.era_of (if m == j then e else s.known m) ≡ s.era_of (s.known m)
    others m h = ap s.era_of (if_false (m == j) e (s.known m) (differ m j h))

    grows : ((k : ℕ) → s.era_of (s.known k) ≤ w.era) → (k : ℕ) → s.era_of (s.known k) ≤ s.era_of (if k == j then e else s.known k)
    grows l k = elim (decide (k == j)) [ inl a ↦ omega (arith, l k, later k (eq_is k j a)) | inr a ↦ rw a (omega arith) ]

    least : ((k : ℕ) → s.era_of (s.known k) ≤ w.era) → (k : ℕ) → s.era_of (if k == j then e else s.known k) ≤ w.era
    least l k = elim (decide (k == j)) [ inl a ↦ omega (arith, later k (eq_is k j a)) | inr a ↦ rw a (l k) ]

    old : (m g : ℕ) → g < w.era → (((m == j) || s.up m) && (s.era_of (if m == j then e else s.known m) == g)) ≡ (s.up m && (s.era_of (s.known m) == g))
    old m g h =
        elim (decide (m == j)) [
          | inr a ↦ rw a refl
          | inl a ↦
              and_false ((m == j) || s.up m) (s.era_of (if m == j then e else s.known m) == g) (differ (s.era_of (if m == j then e else s.known m)) g (λ x. absurd (omega (arith, x, h, later m (eq_is m j a)))))
              ∙ sym (ap (λ b. b && (s.era_of (s.known m) == g)) (ap s.up (eq_is m j a) ∙ down))
        ]

    apart_ : (p : Phase) → Tied s (record { phase = p; facts = w }) → (q : Place) → same q r ≡ false → s.member w.era q ≡ j → ⊥
    apart_ p d q h x = apart (same q r) (d.links.distinct w.era q r (omega arith) x) h

    back : Fine (record { phase = Down r; facts = w }) → Tied s (record { phase = Down r; facts = w }) → Tied (restarted-with s (s.member w.era r) e undecided waiting) (happens (record { phase = Down r; facts = w }) Restart)
    back f d = tied-back s w r (λ k. if k == j then e else s.known k) (λ k. if k == j then suc (s.incarnation j) else s.incarnation k) (λ k. if k == j then 0 else s.held k) (λ k. (k == j) || s.up k) (λ k. not (k == j) && s.settled k) undecided waiting (λ k l o. not (k == j) && s.taken k l o) f d (grows d.links.least) (least d.links.least) (later j refl) (λ q a. others (s.member w.era q) (apart_ (Down r) d q a)) (or_left (j == j) (s.up j) (eq_refl j)) (λ q a. ap (λ b. b || s.up (s.member w.era q)) (differ (s.member w.era q) j (apart_ (Down r) d q a))) (λ g h. old (s.member g (w.changed (suc g))) g h) (λ k h. if_false (k == j) 0 (s.held k) (differ k j h)) (if_true (j == j) 0 (s.held j) (eq_refl j)) (rw (eq_refl j)) C1 C2 (λ k f. subst (λ m. s.cut k f j m ≡ false) (sym (if_true (j == j) (suc (s.incarnation j)) (s.incarnation j) (eq_refl j))) (new k f)) (λ l o. rw (eq_refl j))

    arrive : w.knows r ≡ false → Fine (record { phase = Unsettled r; facts = w }) → Tied s (record { phase = Unsettled r; facts = w }) → Tied (restarted-with s (s.member w.era r) e undecided waiting) (happens (record { phase = Unsettled r; facts = w }) Restart)
    arrive k f d = tied-arrive s w r (λ k. if k == j then e else s.known k) (λ k. if k == j then suc (s.incarnation j) else s.incarnation k) (λ k. if k == j then 0 else s.held k) (λ k. (k == j) || s.up k) (λ k. not (k == j) && s.settled k) undecided waiting (λ k l o. not (k == j) && s.taken k l o) f d k (grows d.links.least) (least d.links.least) (later j refl) (λ q a. others (s.member w.era q) (apart_ (Unsettled r) d q a)) (or_left (j == j) (s.up j) (eq_refl j)) (λ q a. ap (λ b. b || s.up (s.member w.era q)) (differ (s.member w.era q) j (apart_ (Unsettled r) d q a))) (λ g h. old (s.member g (w.changed (suc g))) g h) (λ k h. if_false (k == j) 0 (s.held k) (differ k j h)) (if_true (j == j) 0 (s.held j) (eq_refl j)) (rw (eq_refl j)) C1 C2 (λ k f. subst (λ m. s.cut k f j m ≡ false) (sym (if_true (j == j) (suc (s.incarnation j)) (s.incarnation j) (eq_refl j))) (new k f)) (λ l o. rw (eq_refl j))

    -- the one that is down is the one that the phase names
    go : (p : Phase) → Fine (record { phase = p; facts = w }) → Tied s (record { phase = p; facts = w }) → Tied (restarted-with s (s.member w.era r) e undecided waiting) (happens (record { phase = p; facts = w }) Restart)
    go Whole f d = apart (s.up (s.member w.era r)) (sym (d.links.here r (f.sound.known r))) down
    go (Down o) f d = subst (λ m. Fine (record { phase = Down m; facts = w }) → Tied s (record { phase = Down m; facts = w }) → Tied (restarted-with s (s.member w.era r) e undecided waiting) (happens (record { phase = Down m; facts = w }) Restart)) (same_is r o is_o) back f d
      where
        is_o : same r o ≡ true
        is_o = elim (decide (same r o)) [ inl a ↦ a | inr a ↦ apart (s.up (s.member w.era r)) (sym (d.links.here r (f.sound.known r)) ∙ rw a) down ]
    go (Unsettled o) f d =
        elim (decide (w.knows r)) [
          | inl k ↦ apart (s.up (s.member w.era r)) (sym (d.links.here r k)) down
          | inr k ↦ subst (λ m. Fine (record { phase = Unsettled m; facts = w }) → Tied s (record { phase = Unsettled m; facts = w }) → Tied (restarted-with s (s.member w.era r) e undecided waiting) (happens (record { phase = Unsettled m; facts = w }) Restart)) (is_o k) (arrive k) f d
        ]
      where
        is_o : w.knows r ≡ false → r ≡ o
        is_o k =
            elim (decide (same r (w.changed w.era))) [
              | inl a ↦ same_is r (w.changed w.era) a ∙ same_is (w.changed w.era) o (f.sound.known r k)
              | inr a ↦ apart (s.up (s.member w.era r)) (d.links.waits r k a) down
            ]

states-epoch : (p : Phase) (s : Shadow) (w : Facts) (e : ℕ) → IsNew s w.era e → States p w.era w.sent w.list w.took s.era_of s.member s.known s.incarnation s.cut s.list s.piece s.taken → States p w.era w.sent w.list w.took (after_epoch s w.era e).era_of s.member s.known s.incarnation s.cut s.list s.piece s.taken
states-epoch Whole s w e n h = tt
states-epoch (Down r) s w e n h = tt
states-epoch (Unsettled r) s w e n h = (
  λ i f z.
      elim (decide (f == e)) [
        | inl c ↦ unsent i f (eq_is f e c) ∙ sym (subst (λ k. s.cut (s.member w.era i) k (s.member w.era r) (s.incarnation (s.member w.era r)) ≡ false) (sym (eq_is f e c)) (n.cut (s.member w.era i) (s.member w.era r) (s.incarnation (s.member w.era r))))
        | inr c ↦ h.0 i f (sym (if_false (f == e) w.era (s.era_of f) c) ∙ z)
      ],
  λ i f z y.
      elim (decide (f == e)) [
        | inl c ↦ apart (w.sent i f) y (unsent i f (eq_is f e c))
        | inr c ↦ h.1 i f (sym (if_false (f == e) w.era (s.era_of f) c) ∙ z) y
      ],
  λ i o z x y. h.2 i o (sym (if_false (s.known (s.member w.era r) == e) w.era (s.era_of (s.known (s.member w.era r))) (n.known (s.member w.era r))) ∙ z) x y,
  h.3,
)
  where
    unsent : (i : Place) (f : ℕ) → f ≡ e → w.sent i f ≡ false
    unsent i f c = elim (decide (w.sent i f)) [ inr a ↦ a | inl a ↦ apart (s.cut (s.member w.era i) f (s.member w.era r) (s.incarnation (s.member w.era r))) (h.3 i f a) (subst (λ k. s.cut (s.member w.era i) k (s.member w.era r) (s.incarnation (s.member w.era r)) ≡ false) (sym c) (n.cut (s.member w.era i) (s.member w.era r) (s.incarnation (s.member w.era r)))) ]

-- an epoch begins in which the three stay: nothing for the machine
pub tied-epoch : (s : Shadow) (p : Phase) (w : Facts) (e : ℕ) → Tied s (record { phase = p; facts = w }) → IsNew s w.era e → Tied (after_epoch s w.era e) (record { phase = p; facts = w })
tied-epoch s p w e d n =
    tied-other s p w e (λ f. if f == e then w.era else s.era_of f) s.known s.incarnation s.held s.up s.settled s.taken d
    (λ m z. if_false (s.epoch m == e) w.era (s.era_of (s.epoch m)) (n.asked m z))
    (λ j. omega (arith, same_ j)) (λ j. omega (arith, same_ j, d.links.least j))
    (λ q. ap (λ m. m == w.era) (same_ (s.member w.era q))) (λ q. refl)
    (λ g h. ap (λ m. s.up (s.member g (w.changed (suc g))) && (m == g)) (same_ (s.member g (w.changed (suc g)))))
    (λ g q z. refl) (λ g q z y. y) (states-epoch p s w e n d.states)
  where
    same_ : (k : ℕ) → (if s.known k == e then w.era else s.era_of (s.known k)) ≡ s.era_of (s.known k)
    same_ k = if_false (s.known k == e) w.era (s.era_of (s.known k)) (n.known k)

-- who forgets what it took is no worse off
states-fewer : (p : Phase) (s : Shadow) (w : Facts) (known incarnation : ℕ → ℕ) (taken : ℕ → ℕ → ℕ → Bool) → ((q : Place) → known (s.member w.era q) ≡ s.known (s.member w.era q)) → ((q : Place) → incarnation (s.member w.era q) ≡ s.incarnation (s.member w.era q)) → ((q : Place) (l o : ℕ) → taken (s.member w.era q) l o ≡ true → s.taken (s.member w.era q) l o ≡ true) → States p w.era w.sent w.list w.took s.era_of s.member s.known s.incarnation s.cut s.list s.piece s.taken → States p w.era w.sent w.list w.took s.era_of s.member known incarnation s.cut s.list s.piece taken
states-fewer Whole s w known incarnation taken K I T h = tt
states-fewer (Down r) s w known incarnation taken K I T h = tt
states-fewer (Unsettled r) s w known incarnation taken K I T h = (
  λ i f z. h.0 i f z ∙ ap (λ m. s.cut (s.member w.era i) f (s.member w.era r) m) (sym (I r)),
  λ i f z y. h.1 i f z y ∙ ap (λ m. s.list (s.member w.era i) f (s.member w.era r) m) (sym (I r)),
  λ i o z x y.
      subst (λ m. w.took i m ≡ true) (sym (K r))
      (h.2 i o (subst (λ m. s.era_of m ≡ w.era) (K r) z) (subst (λ m. o ≡ s.piece (s.member w.era i) (s.known (s.member w.era r)) (s.member w.era r) m) (I r) (subst (λ m. o ≡ s.piece (s.member w.era i) m (s.member w.era r) (incarnation (s.member w.era r))) (K r) x)) (T r (s.member w.era i) o y)),
  λ i f y. subst (λ m. s.cut (s.member w.era i) f (s.member w.era r) m ≡ true) (sym (I r)) (h.3 i f y),
)

-- one that is none of the three comes up: nothing for the machine
pub tied-rise : (s : Shadow) (p : Phase) (w : Facts) (j e : ℕ) → Tied s (record { phase = p; facts = w }) → s.up j ≡ false → s.era_of e ≡ w.era → ((q : Place) → s.member w.era q ≡ j → ⊥) → Tied (after_rise s j e) (record { phase = p; facts = w })
tied-rise s p w j e d down era apart_ =
    tied-other s p w s.present s.era_of (λ k. if k == j then e else s.known k) (λ k. if k == j then suc (s.incarnation j) else s.incarnation k) (λ k. if k == j then 0 else s.held k) (λ k. (k == j) || s.up k) (λ k. not (k == j) && s.settled k) (λ k l o. not (k == j) && s.taken k l o) d
    (λ m z. refl) grows least
    (λ q. ap (λ m. s.era_of m == w.era) (known_ (s.member w.era q) (apart_ q)))
    (λ q. ap (λ b. b || s.up (s.member w.era q)) (differ (s.member w.era q) j (apart_ q)))
    (λ g h. old (s.member g (w.changed (suc g))) g h)
    (λ g q z. if_false (s.member g q == j) 0 (s.held (s.member g q)) (not_down s (record { phase = p; facts = w }) j d down g q z))
    (λ g q z y. and_right (not (s.member g q == j)) (s.settled (s.member g q)) y)
    (states-fewer p s w (λ k. if k == j then e else s.known k) (λ k. if k == j then suc (s.incarnation j) else s.incarnation k) (λ k l o. not (k == j) && s.taken k l o) (λ q. known_ (s.member w.era q) (apart_ q)) (λ q. if_false (s.member w.era q == j) (suc (s.incarnation j)) (s.incarnation (s.member w.era q)) (differ (s.member w.era q) j (apart_ q))) (λ q l o y. and_right (not (s.member w.era q == j)) (s.taken (s.member w.era q) l o) y) d.states)
  where
    known_ : (k : ℕ) → (k ≡ j → ⊥) → (if k == j then e else s.known k) ≡ s.known k
    known_ k h = if_false (k == j) e (s.known k) (differ k j h)

    later : (m : ℕ) → m ≡ j → s.era_of (if m == j then e else s.known m) ≡ w.era
    later m h = ap s.era_of (if_true (m == j) e (s.known m) (eq_true m j h)) ∙ era

    grows : (k : ℕ) → s.era_of (s.known k) ≤ s.era_of (if k == j then e else s.known k)
    grows k = elim (decide (k == j)) [ inl a ↦ omega (arith, d.links.least k, later k (eq_is k j a)) | inr a ↦ rw a (omega arith) ]

    least : (k : ℕ) → s.era_of (if k == j then e else s.known k) ≤ w.era
    least k = elim (decide (k == j)) [ inl a ↦ omega (arith, later k (eq_is k j a)) | inr a ↦ rw a (d.links.least k) ]

    old : (m g : ℕ) → g < w.era → (((m == j) || s.up m) && (s.era_of (if m == j then e else s.known m) == g)) ≡ (s.up m && (s.era_of (s.known m) == g))
    old m g h =
        elim (decide (m == j)) [
          | inr a ↦ rw a refl
          | inl a ↦
              and_false ((m == j) || s.up m) (s.era_of (if m == j then e else s.known m) == g) (differ (s.era_of (if m == j then e else s.known m)) g (λ x. absurd (omega (arith, x, h, later m (eq_is m j a)))))
              ∙ sym (ap (λ b. b && (s.era_of (s.known m) == g)) (ap s.up (eq_is m j a) ∙ down))
        ]

-- one that is none of the three crashes or leaves: nothing for the machine, but where it lost its place last and hadn't learned so
pub tied-fall : (s : Shadow) (p : Phase) (w : Facts) (j : ℕ) → Tied s (record { phase = p; facts = w }) → s.up j ≡ true → ((q : Place) → s.member w.era q ≡ j → ⊥) → (events : List Event) × Tied (after_crash s j) (run events (record { phase = p; facts = w })) × ((run events (record { phase = p; facts = w })).facts.era ≡ w.era)
tied-fall s p w j d u apart_ = elim (find_place s a j) [ inl c ↦ was_in c.0 c.1 (goes_cases p w a c.0 (on c.0 c.1)) | inr c ↦ ([], was_out c.0, refl) ]
  where
    W : World
    W = record { phase = p; facts = w }

    a : ℕ
    a = s.era_of (s.known j)

    on : (q : Place) → s.member a q ≡ j → goes_by p w a q ≡ true
    on q m = there s W a q j d (d.links.least j) m u refl

    st : States p w.era w.sent w.list w.took s.era_of s.member s.known s.incarnation s.cut s.list s.piece (λ k l o. not (k == j) && s.taken k l o)
    st = states-fewer p s w s.known s.incarnation (λ k l o. not (k == j) && s.taken k l o) (λ q. refl) (λ q. refl) (λ q l o y. and_right (not (s.member w.era q == j)) (s.taken (s.member w.era q) l o) y) d.states

    up_ : (q : Place) → (not (s.member w.era q == j) && s.up (s.member w.era q)) ≡ s.up (s.member w.era q)
    up_ q = ap (λ b. not b && s.up (s.member w.era q)) (differ (s.member w.era q) j (apart_ q))

    -- it goes by era a alone
    old : (k g : ℕ) → (k ≡ j → g ≡ a → ⊥) → ((not (k == j) && s.up k) && (s.era_of (s.known k) == g)) ≡ (s.up k && (s.era_of (s.known k) == g))
    old k g h =
        elim (decide (k == j)) [
          | inr x ↦ ap (λ b. (not b && s.up k) && (s.era_of (s.known k) == g)) x
          | inl x ↦
              let y : (s.era_of (s.known k) == g) ≡ false = differ (s.era_of (s.known k)) g (λ z. h (eq_is k j x) (sym (subst (λ m. s.era_of (s.known m) ≡ g) (eq_is k j x) z))) in
              and_false (not (k == j) && s.up k) (s.era_of (s.known k) == g) y ∙ sym (and_false (s.up k) (s.era_of (s.known k) == g) y)
        ]

    was_out : ((q : Place) → s.member a q ≡ j → ⊥) → Tied (after_crash s j) (record { phase = p; facts = w })
    was_out no_ =
        tied-other s p w s.present s.era_of s.known s.incarnation (λ k. if k == j then 0 else s.held k) (λ k. not (k == j) && s.up k) (λ k. not (k == j) && s.settled k) (λ k l o. not (k == j) && s.taken k l o) d
        (λ m z. refl) (λ k. omega arith) d.links.least (λ q. refl) up_
        (λ g h. old (s.member g (w.changed (suc g))) g (λ x y. no_ (w.changed (suc g)) (subst (λ k. s.member k (w.changed (suc g)) ≡ j) y x)))
        (λ g q z. if_false (s.member g q == j) 0 (s.held (s.member g q)) (not_placed s W j d no_ g q z))
        (λ g q z y. and_right (not (s.member g q == j)) (s.settled (s.member g q)) y) st

    was_in : (q : Place) → s.member a q ≡ j → Now p w a q ⊎ (Lost p w a q ⊎ Stays p w a q) → (events : List Event) × Tied (after_crash s j) (run events (record { phase = p; facts = w })) × ((run events (record { phase = p; facts = w })).facts.era ≡ w.era)
    was_in q m (inl c) = absurd (apart_ q (subst (λ k. s.member k q ≡ j) c.1 m))
    was_in q m (inr (inr c)) = absurd (apart_ q (subst (λ k. s.member k q ≡ s.member a q) c.2 (d.links.stays a q (omega (arith, c.2)) c.1) ∙ m))
    was_in q m (inr (inl c)) = (Drop_out (suc a) ∷ [], lost_ c, refl)
      where
        lost_ : Lost p w a q → Tied (after_crash s j) (happens (record { phase = p; facts = w }) (Drop_out (suc a)))
        lost_ lo =
            tied-out s p w a s.era_of s.known s.incarnation (λ k. if k == j then 0 else s.held k) (λ k. not (k == j) && s.up k) (λ k. not (k == j) && s.settled k) (λ k l o. not (k == j) && s.taken k l o) d
            (λ n y. refl) (λ k. omega arith) d.links.least (λ o. refl) up_
            (λ g h n. old (s.member g (w.changed (suc g))) g (λ x y. n y))
            (ap (λ b. (not b && s.up (s.member a (w.changed (suc a)))) && (s.era_of (s.known (s.member a (w.changed (suc a)))) == a)) (eq_true (s.member a (w.changed (suc a))) j (ap (s.member a) (sym (same_is q (w.changed (suc a)) lo.2)) ∙ m)))
            (λ g o y. if_false (s.member g o == j) 0 (s.held (s.member g o)) (not_lost s p w a q j d m refl lo g o y))
            (λ g o y x. and_right (not (s.member g o == j)) (s.settled (s.member g o)) x) st
