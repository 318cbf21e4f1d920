use Rattle.std.proofs.Common.{◌∙◌, refl}
use Rattle.am_limit.specs.Allowances.{allowance_of}
use Rattle.am_notifier.specs.Notifies.{notifies_of}
use Rattle.am_notifier.proofs.Parts.{both}
use Rattle.am_notifier.proofs.notifier.Notifier.forget.Goals as goal

pub returns : goal.returns
unfolding notifies_of
returns c = λ t.
    both _ _ (allowance_of t c.args.self.now.allowances) _ (c.sweep.ensures.plans t ∙ c.in_ok-take_out_all.ensures t) refl
