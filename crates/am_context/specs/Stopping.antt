-- Why a room stops.
use Rattle.std.specs.Prelude.{◌≡◌, Bool, false}
use Rattle.am_item.specs.declared.fault.Fault.{Fault}
use Rattle.am_item.specs.declared.fault.Fault.TheVariants.{OutOfMemory, CountsExhausted, PatternNotBuilt, StoreRefused}

-- a count would have passed the greatest, or memory ran out
abbrev pub StopsPast : (fits : Bool) → Fault → Type 0
StopsPast fits CountsExhausted = fits ≡ false
StopsPast fits OutOfMemory = Unit {0}
StopsPast fits PatternNotBuilt = ⊥
StopsPast fits StoreRefused = ⊥
