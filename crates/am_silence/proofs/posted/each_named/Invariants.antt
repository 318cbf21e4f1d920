use Rattle.std.proofs.Common.{◌≡◌, drop}
use Rattle.am_text.proofs.OutcomeLemmas.{with_front}
use Rattle.am_silence.specs.Posted.{each_named}
use Rattle.am_silence.proofs.posted.each_named.Given as goal

abbrev pub invariant-loop-matcher : goal.invariant-loop-matcher
invariant-loop-matcher l =
    with_front l.matchers.items (each_named (drop l.matcher-index l.written)) ≡ each_named l.written
