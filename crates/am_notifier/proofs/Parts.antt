-- What is had of a tenant, part by part.
use Rattle.std.proofs.Common.{◌≡◌, ℕ, Option, refl}
use Rattle.am_agenda.specs.Plan.{Plan}
use Rattle.am_limit.specs.Limits.{Count}
use Rattle.am_notifier.specs.Notifies.{Notifies}

abbrev pub with_parts : Plan → Count → Option ℕ → Notifies
with_parts plan noticed position = record { plan = plan; noticed = noticed; position = position }

-- equal parts make it equal, at the same position
pub both : {d : Option ℕ} (p q : Plan) (c e : Count) → p ≡ q → c ≡ e → with_parts p c d ≡ with_parts q e d
both {d} p q c e plan noticed = rw (plan, noticed) refl

-- equal parts make it equal
pub parts_make : (p q : Plan) (c e : Count) (d f : Option ℕ) → p ≡ q → c ≡ e → d ≡ f
    → with_parts p c d ≡ with_parts q e f
parts_make p q c e d f plan noticed position = rw (plan, noticed, position) refl
