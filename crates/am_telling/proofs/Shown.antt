-- The first alerts of a list.
use Rattle.std.proofs.Common.{◌≡◌, ℕ, zero, suc, ◌==◌, ◌≤◌, false, List, [], ◌∷◌, length, map, take, refl, sym, ap, ◌∙◌}
use Rattle.std.proofs.lemmas.List.{take_all}
use Rattle.am_alert.specs.declared.held.HeldAlert.{HeldAlert}
use Rattle.am_alert.specs.HeldAlert.{held_alert}
use Rattle.am_telling.specs.Tellings.{shown}

first : (most : ℕ) (alerts : List HeldAlert) → map held_alert (take most alerts) ≡ take most (map held_alert alerts)
first zero alerts = refl
first (suc most) [] = refl
first (suc most) (alert ∷ alerts) = ap (λ rest. held_alert alert ∷ rest) (first most alerts)

-- where there is a limit, they are those that are shown
pub kept : (most : ℕ) (alerts : List HeldAlert) → (most == 0) ≡ false → map held_alert (take most alerts) ≡ shown most (map held_alert alerts)
kept most alerts some = rw some (first most alerts)

-- .. and where there are no more than it says, all of them are
pub all_kept : (most : ℕ) (alerts : List HeldAlert) → (most == 0) ≡ false → length alerts ≤ most → map held_alert alerts ≡ shown most (map held_alert alerts)
all_kept most alerts some few = ap (map held_alert) (sym (take_all most alerts few)) ∙ kept most alerts some
