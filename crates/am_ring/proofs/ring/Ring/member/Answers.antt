use Rattle.std.proofs.Common.{◌≡◌, ℕ, Bool, true, false, cond, Some, None, ap, refl, sym, ◌∙◌}
use Rattle.std.specs.Bool.{then_some}
use Rattle.am_ring.specs.Instances.{flagged}
use Rattle.am_ring.proofs.Flags.{flag_of, stranger}
use Rattle.am_ring.proofs.Numbers.{made, not_made}
use Rattle.am_ring.proofs.ring.Ring.member.Goals as goal

chosen : (b : Bool) (i : ℕ) → then_some b i ≡ cond b (Some i) None
chosen true i = refl
chosen false i = refl

pub returns-in-Some : goal.returns-in-Some
returns-in-Some c =
    let shown : flagged c.self.inside.members ≡ c.args.self.now.instances = ap (λ m. m.instances) c.self.view_is in
    let same = made c.args.number c.in-Some.instance (sym c.in-Some.is ∙ c.new.ensures) in
    rw (c.then_some.ensures, ← shown, ← same.0, c.index.ensures.index, flag_of c.self.inside.members c.in-Some.instance c.index.ensures.range) (chosen _ _)

pub returns-in-None : goal.returns-in-None
returns-in-None c =
    let shown : flagged c.self.inside.members ≡ c.args.self.now.instances = ap (λ m. m.instances) c.self.view_is in
    rw (← shown, stranger c.self.inside.members c.args.number (not_made c.args.number (sym c.in-None.is ∙ c.new.ensures))) refl
