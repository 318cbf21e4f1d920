-- Whether a notice goes out.
use Rattle.std.proofs.Common.{◌≡◌, true, false, Bool, refl}
use Rattle.am_notifier.specs.Delivery.{started_if}
use Rattle.am_notifier.specs.Notifies.{Notifies}
use Rattle.am_notifier.specs.Steps.{stays}
use Rattle.am_outlet.specs.declared.attempt.Notice.{Notice}

pub not_started : (b : Bool) (notice : Notice) (notifies : Notifies) → b ≡ false → started_if b notice notifies ≡ stays notifies
not_started b notice notifies none = rw none refl

pub started : (b : Bool) (notice : Notice) (notifies : Notifies) → b ≡ true → started_if b notice notifies ≡ started_if true notice notifies
started b notice notifies room = rw room refl
