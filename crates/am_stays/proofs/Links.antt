-- What ties the machine's places to instances: who has a place in an era, by which era an instance goes, whether it is up.
use Rattle.std.specs.Prelude.{◌≡◌, ℕ, suc, ◌<◌, ◌≤◌, Bool, true, false, ◌&&◌, ◌==◌}
use Rattle.am_stays.specs.Places.{Place, same}
use Rattle.am_stays.proofs.Phases.{Phase, is_up}
use Rattle.am_stays.proofs.Machine.{Facts, goes_by}

pub record Linked (p : Phase) (era : ℕ) (changed : ℕ → Place) (now : Place → Bool) (waits_on : ℕ → Bool) (member : ℕ → Place → ℕ) (known : ℕ → ℕ) (up : ℕ → Bool) : Type 0 where
  -- nobody goes by a later era, and who was one of the three when an era ended knew it
  pub least : (i : ℕ) → known i ≤ era
  pub ripe : (g : ℕ) (q : Place) → g < era → g ≤ known (member g q)
  pub stays : (g : ℕ) (q : Place) → g < era → same q (changed (suc g)) ≡ false → member (suc g) q ≡ member g q
  pub news : (g : ℕ) (q : Place) → g < era → member (suc g) (changed (suc g)) ≡ member g q → ⊥
  pub distinct : (g : ℕ) (q r : Place) → g ≤ era → member g q ≡ member g r → same q r ≡ true
  pub knows : (q : Place) → now q ≡ (known (member era q) == era)
  pub lingers : (g : ℕ) → g < era → waits_on (suc g) ≡ (up (member g (changed (suc g))) && (known (member g (changed (suc g))) == g))
  pub here : (q : Place) → now q ≡ true → is_up p q ≡ up (member era q)
  pub waits : (q : Place) → now q ≡ false → same q (changed era) ≡ false → up (member era q) ≡ true

abbrev pub Links : Phase → Facts → (ℕ → Place → ℕ) → (ℕ → ℕ) → (ℕ → Bool) → Type 0
Links p w member known up = Linked p w.era w.changed w.knows w.lingers member known up

-- So the instance of place i in era g is up and goes by era g exactly where the machine says so.
abbrev pub IsGoing : Phase → Facts → (ℕ → Place → ℕ) → (ℕ → ℕ) → (ℕ → Bool) → Type 0
IsGoing p w member known up = (g : ℕ) (i : Place) → g ≤ w.era → goes_by p w g i ≡ (up (member g i) && (known (member g i) == g))
