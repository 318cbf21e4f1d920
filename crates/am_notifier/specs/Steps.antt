-- What something comes to: what is planned then, and what comes next.
use Rattle.std.specs.Prelude.{ℕ, Bool, true, ◌&&◌, List, [], ◌∷◌, ◌++◌}
use Rattle.am_notifier.specs.Notifies.{Makes, Notifies}
use Rattle.am_notifier.specs.declared.next.Next.{Next}
use Rattle.am_notifier.specs.declared.notifier.Notifier.{Notifier}

-- what is planned afterwards, what comes next, in order, and whether no count passes the greatest
pub record Step : Type 0 where
  pub notifies : Notifies
  pub next : List Next
  pub fits : Bool

-- nothing happens
abbrev pub stays : Notifies → Step
stays notifies = record { notifies = notifies; next = []; fits = true }

-- one thing after the other
abbrev pub in_turn : Step → (Notifies → Step) → Step
in_turn first then = record {
  notifies = (then first.notifies).notifies;
  next = first.next ++ (then first.notifies).next;
  fits = first.fits && (then first.notifies).fits;
}

-- for each of a list, in its order
abbrev pub each : {A : Type 0} → (A → Notifies → Step) → List A → Notifies → Step
each step [] notifies = stays notifies
each step (x ∷ xs) notifies = in_turn (step x notifies) (each step xs)

-- this was done for one tenant
abbrev pub Does : List ℕ → (Notifies → Step) → Notifier → Notifier → Type 0
Does tenant step old new = Makes tenant (λ notifies. (step notifies).notifies) old new
