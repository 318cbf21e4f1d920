-- What is claimed of every calm view.
use Rattle.std.specs.Prelude.{◌≡◌, ℕ, suc, ◌<◌, ◌≤◌, max, Bool, true, false, ◌&&◌, ◌⊎◌, List}
use Rattle.am_stays.specs.Places.{Place}
use Rattle.am_stays.specs.Shadow.{Shadow, shadow_start}
use Rattle.am_stays.specs.Happenings.{Happening, era_now, is_replica, has_list, shadow_run}

-- three different instances
abbrev pub AreThree : (Place → ℕ) → Type 0
AreThree members = (p q : Place) → members p ≡ members q → p ≡ q

-- A claim holds in every calm view: of any three replicas, whatever each instance holds, and whatever happens.
abbrev pub InEveryCalmView : (Shadow → Type 0) → Type 0
InEveryCalmView claim =
    (members : Place → ℕ) (held : ℕ → ℕ) (happened : List Happening) → AreThree members →
    claim (shadow_run happened (shadow_start members held))

-- a replica that answers
abbrev pub serves : Shadow → ℕ → Bool
serves s j = s.settled j && is_replica s j

-- Any two settled replicas that go by the same era include a holder of each acknowledged item that isn't outlived: one
-- holds it, or an item of its key with a greater stamp.
abbrev pub PairsHold : Shadow → Type 0
PairsHold s =
    (x j k : ℕ) → s.acknowledged x ≡ true → s.outlived < x →
    serves s j ≡ true → serves s k ≡ true → (j ≡ k → ⊥) → s.era_of (s.known j) ≡ s.era_of (s.known k) →
    (x ≤ s.held j) ⊎ (x ≤ s.held k)

-- Who took a whole list holds what stood in it, or it is outlived. So does each instance that settles, of both lists.
abbrev pub ListsAreHeld : Shadow → Type 0
ListsAreHeld s =
    (r j : ℕ) → has_list s r j ≡ true →
    (s.list j (s.known r) r (s.incarnation r) ≤ s.held r) ⊎ (s.list j (s.known r) r (s.incarnation r) ≤ s.outlived)

-- Each decision sees what was acknowledged before its request came, unless that is outlived: of the two answers by
-- which it can be decided one has it, or an item of its key with a greater stamp.
abbrev pub DecisionsSee : Shadow → Type 0
DecisionsSee s =
    (n x j v k u : ℕ) → s.undecided n ≡ true → s.before n x ≡ true → s.outlived < x →
    s.answer n j v ≡ true → s.answer n k u ≡ true → (j ≡ k → ⊥) → x ≤ max v u

-- Once two instances answered Gets of an epoch, of one request or of two, at most one replica of each earlier epoch
-- still goes by that epoch.
abbrev pub EarlierEpochsEnd : Shadow → Type 0
EarlierEpochsEnd s =
    (n o j v k u l m : ℕ) → s.answer n j v ≡ true → s.answer o k u ≡ true → s.epoch n ≡ s.epoch o → (j ≡ k → ⊥) →
    is_replica s l ≡ true → is_replica s m ≡ true → s.known l ≡ s.known m → s.known l < s.epoch n → l ≡ m

-- it holds nothing, and isn't settled
abbrev pub HasNothing : Shadow → ℕ → Type 0
HasNothing s j = (s.held j ≡ 0) × (s.settled j ≡ false)

-- Who is up, and none of the three of the era by which it goes, has nothing.
abbrev pub OthersHoldNothing : Shadow → Type 0
OthersHoldNothing s = (j : ℕ) → s.up j ≡ true → is_replica s j ≡ false → HasNothing s j

-- Who got its place as an era began has nothing until it knows that era: as long as it goes by the one before.
abbrev pub NewcomersHoldNothing : Shadow → Type 0
NewcomersHoldNothing s =
    (g : ℕ) (r : Place) → ((q : Place) → s.member (suc g) r ≡ s.member g q → ⊥) →
    s.up (s.member (suc g) r) ≡ true → s.era_of (s.known (s.member (suc g) r)) ≡ g →
    HasNothing s (s.member (suc g) r)

-- Epochs are counted one by one: nobody goes by a later one than the present, and with each the era stays or the next
-- begins.
abbrev pub EpochsFollow : Shadow → Type 0
EpochsFollow s =
    ((j : ℕ) → s.known j ≤ s.present)
    × ((e : ℕ) → e < s.present → (s.era_of (suc e) ≡ s.era_of e) ⊎ (s.era_of (suc e) ≡ suc (s.era_of e)))

-- One of the three of an era that ended that still goes by it: the next era is the present one, or it lost its place.
abbrev pub AreAdjacent : Shadow → Type 0
AreAdjacent s =
    (g : ℕ) (p : Place) → g < era_now s → s.era_of (s.known (s.member g p)) ≡ g →
    (suc g ≡ era_now s) ⊎ (s.member (suc g) p ≡ s.member g p → ⊥)

-- The three of each era are three instances, and each era begins as one place alone gets another instance, which was
-- none of the three.
abbrev pub PlacesFollow : Shadow → Type 0
PlacesFollow s =
    ((g : ℕ) → g ≤ era_now s → AreThree (s.member g))
    × ((g : ℕ) → g < era_now s →
    (r : Place) × ((q : Place) → s.member (suc g) r ≡ s.member g q → ⊥)
    × ((q : Place) → (q ≡ r → ⊥) → s.member (suc g) q ≡ s.member g q))
