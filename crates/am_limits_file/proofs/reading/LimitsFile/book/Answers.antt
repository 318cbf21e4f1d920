use Rattle.std.proofs.Common.{refl}
use Rattle.am_limits_file.proofs.ChangesLemmas.{limits_of-unset}
use Rattle.am_limits_file.proofs.reading.LimitsFile.book.Goals as goal

pub loop-named-init : goal.loop-named-init
loop-named-init c = λ t.
    rw (c.new-book.ensures, c.as_slice-named-items.ensures, limits_of-unset t c.args.self.now.default) refl
