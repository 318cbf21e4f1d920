-- What the outcome of a try comes to.
use Rattle.std.proofs.Common.{◌≡◌, ℕ, Option, sym, ap, ◌∙◌}
use Rattle.am_outlet.specs.Attempts.{after_outcome, outcome_of}
use Rattle.am_outlet.specs.declared.attempt.Notice.{Notice}
use Rattle.am_outlet.specs.declared.outcome.Outcome.{Outcome}
use Rattle.am_outlet.specs.declared.outcome.Outcome.TheVariants.{Delivered}
use Rattle.am_context.specs.declared.context.Context.{Context}
use Rattle.am_node.specs.Delivery.{at_desk, outcome, recorded, settled}
use Rattle.am_node.specs.Local.{Local, stays}

module _ (context : Context) (number tries : ℕ) (status : Option ℕ) (before after : Local) (o : Outcome)
    (is : o ≡ outcome_of number tries context.moment status before.plan.desk.open_ones)
    (moved : after ≡ at_desk (after_outcome number tries context.moment status before.plan.desk) before) where
  -- nothing but that the attempt goes on or is closed
  pub unsettled : ((l : Local) → settled context o l ≡ stays l) → stays after ≡ outcome context number tries status before
  unfolding outcome
  unsettled none = ap stays moved ∙ sym (none _) ∙ ap (λ x. settled context x (at_desk (after_outcome number tries context.moment status before.plan.desk) before)) is

module _ (context : Context) (number tries : ℕ) (status : Option ℕ) (before after : Local) (notice : Notice)
    (is : Delivered notice ≡ outcome_of number tries context.moment status before.plan.desk.open_ones)
    (moved : after ≡ at_desk (after_outcome number tries context.moment status before.plan.desk) before) where
  -- it is recorded that the webhook was told
  pub delivered : recorded context notice.key notice.firing notice.resolved notice.span after ≡ outcome context number tries status before
  unfolding outcome
  delivered =
      ap (recorded context notice.key notice.firing notice.resolved notice.span) moved
      ∙ ap (λ x. settled context x (at_desk (after_outcome number tries context.moment status before.plan.desk) before)) is
