-- What ties the machine to the cluster: the relation that each happening keeps.
use Rattle.std.specs.Prelude.{◌≡◌, ℕ, ◌≤◌, Bool, true, false, ◌==◌}
use Rattle.am_stays.specs.Places.{Place}
use Rattle.am_stays.proofs.Phases.{Phase, Whole, Down, Unsettled}
use Rattle.am_stays.proofs.Machine.{World, goes_by, serves, best_of}
use Rattle.am_stays.proofs.Links.{Links}
use Rattle.am_stays.specs.Shadow.{Shadow}

-- The machine knows each list that was cut for the unsettled one, and what stood in it; and that it was taken, once the
-- piece with the key was.
abbrev pub States : Phase → ℕ → (Place → ℕ → Bool) → (Place → ℕ → ℕ) → (Place → ℕ → Bool) → (ℕ → ℕ) → (ℕ → Place → ℕ) → (ℕ → ℕ) → (ℕ → ℕ) → (ℕ → ℕ → ℕ → ℕ → Bool) → (ℕ → ℕ → ℕ → ℕ → ℕ) → (ℕ → ℕ → ℕ → ℕ → ℕ) → (ℕ → ℕ → ℕ → Bool) → Type 0
States Whole era sent list took era_of member known incarnation cut lists piece taken = Unit {0}
States (Down r) era sent list took era_of member known incarnation cut lists piece taken = Unit {0}
States (Unsettled r) era sent list took era_of member known incarnation cut lists piece taken =
    ((i : Place) (e : ℕ) → era_of e ≡ era → sent i e ≡ cut (member era i) e (member era r) (incarnation (member era r)))
    × ((i : Place) (e : ℕ) → era_of e ≡ era → sent i e ≡ true → list i e ≡ lists (member era i) e (member era r) (incarnation (member era r)))
    × ((i : Place) (o : ℕ) → era_of (known (member era r)) ≡ era → o ≡ piece (member era i) (known (member era r)) (member era r) (incarnation (member era r)) → taken (member era r) (member era i) o ≡ true → took i (known (member era r)) ≡ true)
    × ((i : Place) (e : ℕ) → sent i e ≡ true → cut (member era i) e (member era r) (incarnation (member era r)) ≡ true)

-- The machine's requests are the cluster's: of each place that answered, the instance that had it in the request's era did.
pub record Asking (epoch era_of : ℕ → ℕ) (member : ℕ → Place → ℕ) (was_asked is_open : ℕ → Bool) (saw : ℕ → ℕ → Bool) (said : ℕ → ℕ → ℕ → Bool) (m_asked : ℕ → Bool) (m_era : ℕ → ℕ) (m_open : ℕ → Bool) (m_saw : ℕ → ℕ → Bool) (m_said : ℕ → Place → ℕ → Bool) : Type 0 where
  pub asked : (n : ℕ) → m_asked n ≡ was_asked n
  pub request_era : (n : ℕ) → was_asked n ≡ true → m_era n ≡ era_of (epoch n)
  pub before : (n x : ℕ) → saw n x ≡ true → m_saw n x ≡ true
  pub undecided : (n : ℕ) → is_open n ≡ true → m_open n ≡ true
  pub answer : (n j v : ℕ) → said n j v ≡ true → (i : Place) × (member (m_era n) i ≡ j) × (m_said n i v ≡ true)

-- So are its writes.
pub record Writing (epoch era_of by_request : ℕ → ℕ) (member : ℕ → Place → ℕ) (was_asked was_put is_open : ℕ → Bool) (has_ack : ℕ → ℕ → Bool) (was_acknowledged : ℕ → Bool) (m_put : ℕ → Bool) (m_era : ℕ → ℕ) (m_open : ℕ → Bool) (m_ack : ℕ → Place → Bool) (m_acknowledged : ℕ → Bool) : Type 0 where
  pub put : (x : ℕ) → m_put x ≡ was_put x
  pub write_era : (x : ℕ) → was_put x ≡ true → m_era x ≡ era_of (epoch (by_request x))
  pub by : (x : ℕ) → was_put x ≡ true → was_asked (by_request x) ≡ true
  pub waiting : (x : ℕ) → is_open x ≡ true → m_open x ≡ true
  pub ack : (x j : ℕ) → has_ack x j ≡ true → (i : Place) × (member (m_era x) i ≡ j) × (m_ack x i ≡ true)
  pub acknowledged : (x : ℕ) → m_acknowledged x ≡ was_acknowledged x

-- The machine does what the cluster does.
pub record Tied (s : Shadow) (w : World) : Type 0 where
  pub links : Links w.phase w.facts s.member (λ j. s.era_of (s.known j)) s.up
  pub held : (g : ℕ) (i : Place) → goes_by w.phase w.facts g i ≡ true → s.held (s.member g i) ≡ best_of w.facts g i
  pub settles : (g : ℕ) (i : Place) → goes_by w.phase w.facts g i ≡ true → s.settled (s.member g i) ≡ true → serves w.phase w.facts g i ≡ true
  pub outlived : w.facts.outlived ≡ s.outlived
  pub asking : Asking s.epoch s.era_of s.member s.asked s.undecided s.before s.answer w.facts.asked w.facts.request_era w.facts.undecided w.facts.before w.facts.answer
  pub writing : Writing s.epoch s.era_of s.by s.member s.asked s.put s.waiting s.ack s.acknowledged w.facts.put w.facts.write_era w.facts.waiting w.facts.ack w.facts.acknowledged
  pub states : States w.phase w.facts.era w.facts.sent w.facts.list w.facts.took s.era_of s.member s.known s.incarnation s.cut s.list s.piece s.taken

-- The three of an era are up, settled, and go by it.
pub record AreReady (s : Shadow) (era : ℕ) : Type 0 where
  pub up : (q : Place) → s.up (s.member era q) ≡ true
  pub settled : (q : Place) → s.settled (s.member era q) ≡ true
  pub known : (q : Place) → s.era_of (s.known (s.member era q)) ≡ era

-- Epoch e is new: nobody goes by it, and nothing was sent in it.
pub record IsNew (s : Shadow) (era e : ℕ) : Type 0 where
  pub eras : (f : ℕ) → s.era_of f ≤ era
  pub known : (k : ℕ) → (s.known k == e) ≡ false
  pub asked : (n : ℕ) → s.asked n ≡ true → (s.epoch n == e) ≡ false
  pub cut : (k l m : ℕ) → s.cut k e l m ≡ false
