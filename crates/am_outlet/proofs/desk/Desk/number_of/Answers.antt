use Rattle.std.proofs.Common.{◌≡◌, ℕ, Option, Some, None, IfSome, refl, sym, ◌∙◌}
use Rattle.std.specs.Option.{IfNone}
use Rattle.am_outlet.proofs.Kept.{number_told, without_told, without_untold}
use Rattle.am_outlet.proofs.desk.Desk.number_of.Goals as goal

at_some : (o : Option ℕ) (P : ℕ → Type 0) → ((n : ℕ) → o ≡ Some n → P n) → IfSome o P
at_some None P h = tt
at_some (Some n) P h = h n refl

at_none : (o : Option ℕ) (P : Type 0) → (o ≡ None → P) → IfNone o P
at_none None P h = h refl
at_none (Some n) P h = tt

pub returns-clause-number : goal.returns-clause-number
returns-clause-number c =
    rw (← c.self.view_is) (c.copied.ensures ∙ c.get.ensures.value ∙ number_told c.self.inside.used c.self.inside.attempts.entries c.self.inside.numbers.entries c.self.invariant c.args.key.now)

pub returns-clause-some : goal.returns-clause-some
returns-clause-some c =
    rw (← c.self.view_is) (at_some c.copied.result _ (λ n e.
    without_told c.self.inside.used c.self.inside.attempts.entries c.self.inside.numbers.entries c.self.invariant c.args.key.now n (sym (c.copied.ensures ∙ c.get.ensures.value) ∙ e)))

pub returns-clause-none : goal.returns-clause-none
returns-clause-none c =
    rw (← c.self.view_is) (at_none c.copied.result _ (λ e.
    without_untold c.self.inside.used c.self.inside.attempts.entries c.self.inside.numbers.entries c.self.invariant c.args.key.now (sym (c.copied.ensures ∙ c.get.ensures.value) ∙ e)))
