-- The machine follows the cluster: what is kept along every list of happenings.
use Rattle.std.proofs.Common.{◌≡◌, ℕ, true, false, inl, inr, List, [], ◌∷◌}
use Rattle.am_stays.specs.Places.{Place}
use Rattle.am_stays.proofs.Machine.{World, Event, happens, run}
use Rattle.am_stays.proofs.MachineClaims.{IsEmpty}
use Rattle.am_stays.specs.Shadow.{Shadow, has_place}
use Rattle.am_stays.specs.Happenings.{is_replica}
use Rattle.am_stays.proofs.Tables.{and_left, and_right, apart}
use Rattle.am_stays.proofs.Runs.{Fine, fine-run}
use Rattle.am_stays.proofs.Empty.{empty-run}
use Rattle.am_stays.proofs.Tied.{Tied}
use Rattle.am_stays.proofs.Bounds.{Bounded}
use Rattle.am_stays.proofs.Merged.{Merged}
use Rattle.am_stays.proofs.Members.{find_place}

pub record Follows (s : Shadow) (w : World) : Type 0 where
  pub fine : Fine w
  pub empty : IsEmpty w.facts
  pub tied : Tied s w
  pub era : w.facts.era ≡ s.era_of s.present
  pub bounded : Bounded s
  pub merged : Merged s

-- the machine has a state that follows
abbrev pub Reached : Shadow → Type 0
Reached s = (w : World) × Follows s w

-- it goes there by these events
pub by-events : (s t : Shadow) (w : World) (events : List Event) → Follows s w → Tied t (run events w) → (run events w).facts.era ≡ t.era_of t.present → Bounded t → Merged t → Reached t
by-events s t w events f d e b m = (run events w, record { fine = fine-run events w f.fine; empty = empty-run events w f.empty; tied = d; era = e; bounded = b; merged = m })

pub by-event : (s t : Shadow) (w : World) (event : Event) → Follows s w → Tied t (happens w event) → (happens w event).facts.era ≡ t.era_of t.present → Bounded t → Merged t → Reached t
by-event s t w event f d e b m = by-events s t w (event ∷ []) f d e b m

pub by-none : (s t : Shadow) (w : World) → Follows s w → Tied t w → w.facts.era ≡ t.era_of t.present → Bounded t → Merged t → Reached t
by-none s t w f d e b m = (w, record { fine = f.fine; empty = f.empty; tied = d; era = e; bounded = b; merged = m })

-- a replica is up, and has a place in the era by which it goes
pub replica_up : (s : Shadow) (j : ℕ) → is_replica s j ≡ true → s.up j ≡ true
replica_up s j h = and_left (s.up j) (has_place s (s.era_of (s.known j)) j) h

pub place_of : (s : Shadow) (g j : ℕ) → has_place s g j ≡ true → (q : Place) × (s.member g q ≡ j)
place_of s g j h = elim (find_place s g j) [ inl c ↦ (c.0, c.1) | inr c ↦ apart (has_place s g j) h c.1 ]

pub no_place : (s : Shadow) (g j : ℕ) → has_place s g j ≡ false → (q : Place) → s.member g q ≡ j → ⊥
no_place s g j h q m = elim (find_place s g j) [ inl c ↦ apart (has_place s g j) c.2 h | inr c ↦ c.0 q m ]

pub replica_place : (s : Shadow) (j : ℕ) → is_replica s j ≡ true → (q : Place) × (s.member (s.era_of (s.known j)) q ≡ j)
replica_place s j h = place_of s (s.era_of (s.known j)) j (and_right (s.up j) (has_place s (s.era_of (s.known j)) j) h)
