use Rattle.std.proofs.Common.{◌≡◌, Bool, List, length}
use Rattle.am_report.specs.Mail.{kept_of}
use Rattle.am_play.specs.Playing.{Hands}
use Rattle.am_play.specs.Trace.{Happened, Grows}
use Rattle.am_report.specs.declared.mail.Letter.{Letter}
use Rattle.am_play.proofs.play.Player.pump.Given as goal

-- the letters that were handed over so far, and what that brought
abbrev pub invariant-loop : goal.invariant-loop
invariant-loop g l = record {
  done : List Happened;
  grows : Grows l.fn.report l.report done;
  handed : List (Letter × Bool);
  hands : Hands g.W.AnyWorld.contents g.L.Link.carries handed l.fn.self l.self done;
  count : length handed ≡ l.counter;
  kept : l.kept ≡ kept_of handed;
}
