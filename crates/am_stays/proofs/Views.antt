-- What holds in every calm view.
use Rattle.std.proofs.Common.{◌≡◌, ℕ, suc, ◌<◌, ◌≤◌, true, false, ◌⊎◌, inl, inr, List, [], ◌∷◌, refl, subst, sym, ap, arith, ◌∙◌}
use Rattle.std.specs.Prelude.{◌==◌}
use Rattle.am_stays.specs.Places.{Place, same}
use Rattle.am_stays.specs.Shadow.{Shadow, shadow_start}
use Rattle.am_stays.specs.Happenings.{Happening, Asked, Got, Decided, Refused, Stored, Replied, Closed, Accepted, Retired, Listed, Pieced, Settled, Learned, Turned, Joined, Left, Crashed, Restarted, Stopped, is_replica, all_below, can, done, shadow_after, shadow_run}
use Rattle.am_stays.specs.Claims.{AreThree, PairsHold, ListsAreHeld, DecisionsSee, EarlierEpochsEnd, AreAdjacent, OthersHoldNothing, NewcomersHoldNothing, EpochsFollow, PlacesFollow}
use Rattle.am_stays.proofs.Machine.{World, goes_by, start}
use Rattle.am_stays.proofs.Tables.{and_left, and_right, apart, decide, same_is, same_refl, eq_is, eq_true, if_true, if_false, others_same}
use Rattle.am_stays.proofs.Runs.{fine-start, kept-from, past-from}
use Rattle.am_stays.proofs.Bounds.{eras_grow, bounded-start}
use Rattle.am_stays.proofs.Members.{find_place}
use Rattle.am_stays.proofs.Others.{others-start, others-after}
use Rattle.am_stays.proofs.Follows.{Follows, Reached, replica_up, replica_place}
use Rattle.am_stays.proofs.FollowsOperations.{follow-request, follow-get, follow-write, follow-refuse, follow-put, follow-reply, follow-close, follow-accept, follow-retire}
use Rattle.am_stays.proofs.FollowsLists.{below, follow-cut, follow-piece, follow-settle}
use Rattle.am_stays.proofs.FollowsRings.{follow-learn, follow-epoch, follow-join, follow-leave, follow-crash, follow-restart, follow-stop}
use Rattle.am_stays.proofs.TiedRequests.{there, seen-there}
use Rattle.am_stays.proofs.TiedItems.{tied-start}

follow : (s : Shadow) (h : Happening) (w : World) → OthersHoldNothing s → Follows s w → can s h ≡ true → Reached (done s h)
follow s (Asked n j) w o f c = follow-request s w n j f c
follow s (Got n j) w o f c = follow-get s w n j f c
follow s (Decided n j v k u x) w o f c = follow-write s w n j v k u x f c
follow s (Refused n) w o f c = follow-refuse s w n f
follow s (Stored x j) w o f c = follow-put s w x j f c
follow s (Replied x j k) w o f c = follow-reply s w x j k f c
follow s (Closed x) w o f c = follow-close s w x f
follow s (Accepted j x) w o f c = follow-accept s w j x f c
follow s (Retired j) w o f c = follow-retire s w j f c
follow s (Listed j r pieces piece) w o f c = follow-cut s w.phase w.facts j r pieces piece f c
follow s (Pieced j r p) w o f c = follow-piece s w.phase w.facts j r p f c
follow s (Settled r) w o f c = follow-settle s w.phase w.facts r f c
follow s (Learned j) w o f c = follow-learn s w j o f c
follow s Turned w o f c = follow-epoch s w f
follow s (Joined i r) w o f c = follow-join s w.phase w.facts i r f c
follow s (Left i r) w o f c = follow-leave s w.phase w.facts i r f c
follow s (Crashed j) w o f c = follow-crash s w.phase w.facts j f c
follow s (Restarted j) w o f c = follow-restart s w.phase w.facts j f c
follow s Stopped w o f c = follow-stop s w.phase w.facts f c

-- the others hold nothing, and the machine follows
abbrev Kept : Shadow → Type 0
Kept s = OthersHoldNothing s × Reached s

kept-after : (s : Shadow) (h : Happening) → Kept s → Kept (shadow_after s h)
kept-after s h r =
    elim (decide (can s h)) [
      | inl c ↦ subst (λ t. Kept t) (sym (if_true (can s h) (done s h) s c)) (others-after s h r.1.1.bounded c r.0, follow s h r.1.0 r.0 r.1.1 c)
      | inr c ↦ subst (λ t. Kept t) (sym (if_false (can s h) (done s h) s c)) r
    ]

kept-run : (happened : List Happening) (s : Shadow) → Kept s → Kept (shadow_run happened s)
kept-run [] s r = r
kept-run (h ∷ hs) s r = kept-run hs (shadow_after s h) (kept-after s h r)

follow-start : (members : Place → ℕ) (held : ℕ → ℕ) → AreThree members → Reached (shadow_start members held)
follow-start members held three = (
  start (λ q. held (members q)),
  record {
    fine = fine-start (λ q. held (members q));
    empty = λ q k r. apart true refl k;
    tied = tied-start members held (λ q r e. subst (λ k. same q k ≡ true) (three q r e) (same_refl q));
    era = refl;
    bounded = bounded-start members held;
    merged = λ r j y. apart false y refl;
  },
)

kept : (members : Place → ℕ) (held : ℕ → ℕ) (happened : List Happening) → AreThree members → Kept (shadow_run happened (shadow_start members held))
kept members held happened three = kept-run happened (shadow_start members held) (others-start members held, follow-start members held three)

pub others : (members : Place → ℕ) (held : ℕ → ℕ) (happened : List Happening) → AreThree members → OthersHoldNothing (shadow_run happened (shadow_start members held))
others members held happened three = (kept members held happened three).0

-- who got a place in the next era has none in the one by which it goes
newcomers-from : (s : Shadow) → OthersHoldNothing s → NewcomersHoldNothing s
newcomers-from s h g r new up k =
    elim (find_place s (s.era_of (s.known (s.member (suc g) r))) (s.member (suc g) r)) [
      | inl c ↦ absurd (new c.0 (sym c.1 ∙ ap (λ m. s.member m c.0) k))
      | inr c ↦ h (s.member (suc g) r) up (rw (up, c.1))
    ]

pub newcomers : (members : Place → ℕ) (held : ℕ → ℕ) (happened : List Happening) → AreThree members → NewcomersHoldNothing (shadow_run happened (shadow_start members held))
newcomers members held happened three = newcomers-from (shadow_run happened (shadow_start members held)) (others members held happened three)

reached : (members : Place → ℕ) (held : ℕ → ℕ) (happened : List Happening) → AreThree members → Reached (shadow_run happened (shadow_start members held))
reached members held happened three = (kept members held happened three).1

decisions-from : (s : Shadow) (w : World) → Follows s w → DecisionsSee s
decisions-from s w f = seen-there s w f.fine f.tied

pub decisions : (members : Place → ℕ) (held : ℕ → ℕ) (happened : List Happening) → AreThree members → DecisionsSee (shadow_run happened (shadow_start members held))
decisions members held happened three =
    let r = reached members held happened three in
    decisions-from (shadow_run happened (shadow_start members held)) r.0 r.1

lists-from : (s : Shadow) (w : World) → Follows s w → ListsAreHeld s
lists-from s w f r j h =
    let c = and_left (s.cut j (s.known r) r (s.incarnation r)) (all_below (s.pieces j (s.known r) r (s.incarnation r)) (λ p. s.taken r j p)) h in
    f.merged r j (below (s.pieces j (s.known r) r (s.incarnation r)) (λ p. s.taken r j p) (s.piece j (s.known r) r (s.incarnation r)) (and_right (s.cut j (s.known r) r (s.incarnation r)) (all_below (s.pieces j (s.known r) r (s.incarnation r)) (λ p. s.taken r j p)) h) (f.bounded.pieces j (s.known r) r (s.incarnation r) c))

pub lists : (members : Place → ℕ) (held : ℕ → ℕ) (happened : List Happening) → AreThree members → ListsAreHeld (shadow_run happened (shadow_start members held))
lists members held happened three =
    let r = reached members held happened three in
    lists-from (shadow_run happened (shadow_start members held)) r.0 r.1

pairs-from : (s : Shadow) (w : World) → Follows s w → PairsHold s
pairs-from s w f x j k a l sj sk apart_ e =
    elim (kept-from w f.fine x g pj.0 pk.0 (f.tied.writing.acknowledged x ∙ a) (omega (arith, f.tied.outlived, l)) other (f.tied.settles g pj.0 on_j (subst (λ b. s.settled b ≡ true) (sym pj.1) (and_left (s.settled j) (is_replica s j) sj))) (f.tied.settles g pk.0 on_k (subst (λ b. s.settled b ≡ true) (sym m) (and_left (s.settled k) (is_replica s k) sk)))) [
      | inl b ↦ inl (subst (λ n. x ≤ n) (sym (f.tied.held g pj.0 on_j) ∙ ap s.held pj.1) b)
      | inr b ↦ inr (subst (λ n. x ≤ n) (sym (f.tied.held g pk.0 on_k) ∙ ap s.held m) b)
    ]
  where
    rj : is_replica s j ≡ true
    rj = and_right (s.settled j) (is_replica s j) sj

    rk : is_replica s k ≡ true
    rk = and_right (s.settled k) (is_replica s k) sk

    g : ℕ
    g = s.era_of (s.known j)

    pj : (q : Place) × (s.member (s.era_of (s.known j)) q ≡ j)
    pj = replica_place s j rj

    pk : (q : Place) × (s.member (s.era_of (s.known k)) q ≡ k)
    pk = replica_place s k rk

    m : s.member g pk.0 ≡ k
    m = subst (λ b. s.member b pk.0 ≡ k) (sym e) pk.1

    on_j : goes_by w.phase w.facts g pj.0 ≡ true
    on_j = there s w g pj.0 j f.tied (f.tied.links.least j) pj.1 (replica_up s j rj) refl

    on_k : goes_by w.phase w.facts g pk.0 ≡ true
    on_k = there s w g pk.0 k f.tied (f.tied.links.least j) m (replica_up s k rk) (sym e)

    other : same pj.0 pk.0 ≡ false
    other = elim (decide (same pj.0 pk.0)) [ inr c ↦ c | inl c ↦ absurd (apart_ (sym pj.1 ∙ (ap (s.member g) (same_is pj.0 pk.0 c) ∙ m))) ]

pub pairs : (members : Place → ℕ) (held : ℕ → ℕ) (happened : List Happening) → AreThree members → PairsHold (shadow_run happened (shadow_start members held))
pairs members held happened three =
    let r = reached members held happened three in
    pairs-from (shadow_run happened (shadow_start members held)) r.0 r.1

adjacent-from : (s : Shadow) (w : World) → Follows s w → AreAdjacent s
adjacent-from s w f g p h k =
    let less : g < w.facts.era = omega (arith, h, f.era) in
    let choice : (suc g ≡ w.facts.era) ⊎ (suc g < w.facts.era) = grind (arith, less) in
    elim choice [
      | inl c ↦ inl (c ∙ f.era)
      | inr c ↦
          inr (λ e.
          let z : suc g ≤ s.era_of (s.known (s.member g p)) = subst (λ m. suc g ≤ s.era_of (s.known m)) e (f.tied.links.ripe (suc g) p c) in
          absurd (omega (arith, z, k)))
    ]

pub adjacent : (members : Place → ℕ) (held : ℕ → ℕ) (happened : List Happening) → AreThree members → AreAdjacent (shadow_run happened (shadow_start members held))
adjacent members held happened three =
    let r = reached members held happened three in
    adjacent-from (shadow_run happened (shadow_start members held)) r.0 r.1

places-from : (s : Shadow) (w : World) → Follows s w → PlacesFollow s
places-from s w f = (
  λ g h p q e. same_is p q (f.tied.links.distinct g p q (omega (arith, h, f.era)) e),
  λ g h.
      let less : g < w.facts.era = omega (arith, h, f.era) in (
        w.facts.changed (suc g),
        λ q e. f.tied.links.news g q less e,
        λ q n. f.tied.links.stays g q less (elim (decide (same q (w.facts.changed (suc g)))) [ inr c ↦ c | inl c ↦ absurd (n (same_is q (w.facts.changed (suc g)) c)) ]),
      ),
)

pub places : (members : Place → ℕ) (held : ℕ → ℕ) (happened : List Happening) → AreThree members → PlacesFollow (shadow_run happened (shadow_start members held))
places members held happened three =
    let r = reached members held happened three in
    places-from (shadow_run happened (shadow_start members held)) r.0 r.1

pub epochs : (members : Place → ℕ) (held : ℕ → ℕ) (happened : List Happening) → AreThree members → EpochsFollow (shadow_run happened (shadow_start members held))
epochs members held happened three =
    let r = reached members held happened three in
    (r.1.bounded.known, r.1.bounded.steps)

-- two requests of one epoch that were answered are of one era
one-era : (s : Shadow) (w : World) → Follows s w → (n o j v k u : ℕ) → s.answer n j v ≡ true → s.answer o k u ≡ true → s.epoch n ≡ s.epoch o → w.facts.request_era n ≡ w.facts.request_era o
one-era s w f n o j v k u aj ak both = f.tied.asking.request_era n (f.bounded.answered n j v aj).0 ∙ (ap s.era_of both ∙ sym (f.tied.asking.request_era o (f.bounded.answered o k u ak).0))

-- of an earlier epoch of the same era: the two that answered are past it
same-era : (s : Shadow) (w : World) → Follows s w → (n o j v k u l m : ℕ) → s.answer n j v ≡ true → s.answer o k u ≡ true → s.epoch n ≡ s.epoch o → (j ≡ k → ⊥) → is_replica s l ≡ true → is_replica s m ≡ true → s.known l ≡ s.known m → s.known l < s.epoch n → s.era_of (s.known l) ≡ w.facts.request_era n → l ≡ m
same-era s w f n o j v k u l m aj ak both apart_ rl rm e less g =
    sym ll ∙ (ap (s.member g0) (others_same pj.0 pk.0 pl.0 pm.0 (differ j k pj.0 pk.0 pj.1 kk apart_) (differ l j pl.0 pj.0 ll pj.1 (past n l j v refl refl aj)) (differ l k pl.0 pk.0 ll kk (past o l k u refl both ak)) (differ m j pm.0 pj.0 mm pj.1 (past n m j v (sym e) refl aj)) (differ m k pm.0 pk.0 mm kk (past o m k u (sym e) both ak))) ∙ mm)
  where
    g0 : ℕ
    g0 = w.facts.request_era n

    pj : (q : Place) × (s.member g0 q ≡ j) × (w.facts.answer n q v ≡ true)
    pj = f.tied.asking.answer n j v aj

    pk : (q : Place) × (s.member (w.facts.request_era o) q ≡ k) × (w.facts.answer o q u ≡ true)
    pk = f.tied.asking.answer o k u ak

    kk : s.member g0 pk.0 ≡ k
    kk = subst (λ b. s.member b pk.0 ≡ k) (sym (one-era s w f n o j v k u aj ak both)) pk.1

    pl : (q : Place) × (s.member (s.era_of (s.known l)) q ≡ l)
    pl = replica_place s l rl

    pm : (q : Place) × (s.member (s.era_of (s.known m)) q ≡ m)
    pm = replica_place s m rm

    ll : s.member g0 pl.0 ≡ l
    ll = subst (λ b. s.member b pl.0 ≡ l) g pl.1

    mm : s.member g0 pm.0 ≡ m
    mm = subst (λ b. s.member b pm.0 ≡ m) (ap s.era_of (sym e) ∙ g) pm.1

    past : (i a b c : ℕ) → s.known a ≡ s.known l → s.epoch n ≡ s.epoch i → s.answer i b c ≡ true → a ≡ b → ⊥
    past i a b c h x y z = absurd (omega (arith, (f.bounded.answered i b c y).1, less, h, x, ap s.known z))

    differ : (a b : ℕ) (p q : Place) → s.member g0 p ≡ a → s.member g0 q ≡ b → (a ≡ b → ⊥) → same p q ≡ false
    differ a b p q x y h = elim (decide (same p q)) [ inr c ↦ c | inl c ↦ absurd (h (sym x ∙ (ap (s.member g0) (same_is p q c) ∙ y))) ]

ended-from : (s : Shadow) (w : World) → Follows s w → EarlierEpochsEnd s
ended-from s w f n o j v k u l m aj ak both apart_ rl rm e less =
    elim (decide (s.era_of (s.known l) == w.facts.request_era n)) [
      | inl c ↦ same-era s w f n o j v k u l m aj ak both apart_ rl rm e less (eq_is (s.era_of (s.known l)) (w.facts.request_era n) c)
      | inr c ↦ earlier (before_ c)
    ]
  where
    ask : w.facts.request_era n ≡ s.era_of (s.epoch n)
    ask = f.tied.asking.request_era n (f.bounded.answered n j v aj).0

    g : ℕ
    g = s.era_of (s.known l)

    before_ : (s.era_of (s.known l) == w.facts.request_era n) ≡ false → s.era_of (s.known l) < w.facts.request_era n
    before_ c =
        let le : s.era_of (s.known l) ≤ w.facts.request_era n = subst (λ b. s.era_of (s.known l) ≤ b) (sym ask) (eras_grow s f.bounded (s.known l) (s.epoch n) (omega (arith, less)) (f.bounded.epoch n (f.bounded.answered n j v aj).0)) in
        let choice : (s.era_of (s.known l) ≡ w.facts.request_era n) ⊎ (s.era_of (s.known l) < w.facts.request_era n) = grind (arith, le) in
        elim choice [ inl x ↦ apart (s.era_of (s.known l) == w.facts.request_era n) (eq_true (s.era_of (s.known l)) (w.facts.request_era n) x) c | inr x ↦ x ]

    pj : (q : Place) × (s.member (w.facts.request_era n) q ≡ j) × (w.facts.answer n q v ≡ true)
    pj = f.tied.asking.answer n j v aj

    pk : (q : Place) × (s.member (w.facts.request_era o) q ≡ k) × (w.facts.answer o q u ≡ true)
    pk = f.tied.asking.answer o k u ak

    eras : w.facts.request_era n ≡ w.facts.request_era o
    eras = one-era s w f n o j v k u aj ak both

    pl : (q : Place) × (s.member (s.era_of (s.known l)) q ≡ l)
    pl = replica_place s l rl

    pm : (q : Place) × (s.member (s.era_of (s.known m)) q ≡ m)
    pm = replica_place s m rm

    mm : s.member g pm.0 ≡ m
    mm = subst (λ b. s.member b pm.0 ≡ m) (ap s.era_of (sym e)) pm.1

    other : same pj.0 pk.0 ≡ false
    other = elim (decide (same pj.0 pk.0)) [ inr c ↦ c | inl c ↦ absurd (apart_ (sym pj.1 ∙ (ap (s.member (w.facts.request_era n)) (same_is pj.0 pk.0 c) ∙ subst (λ b. s.member b pk.0 ≡ k) (sym eras) pk.1))) ]

    earlier : s.era_of (s.known l) < w.facts.request_era n → l ≡ m
    earlier h =
        let one = past-from w f.fine n o g pj.0 pk.0 pl.0 pm.0 v u pj.2 pk.2 eras other h (there s w g pl.0 l f.tied (f.tied.links.least l) pl.1 (replica_up s l rl) refl) (there s w g pm.0 m f.tied (f.tied.links.least l) mm (replica_up s m rm) (ap s.era_of (sym e))) in
        sym pl.1 ∙ (ap (s.member g) (same_is pl.0 pm.0 one) ∙ mm)

pub ended : (members : Place → ℕ) (held : ℕ → ℕ) (happened : List Happening) → AreThree members → EarlierEpochsEnd (shadow_run happened (shadow_start members held))
ended members held happened three =
    let r = reached members held happened three in
    ended-from (shadow_run happened (shadow_start members held)) r.0 r.1
