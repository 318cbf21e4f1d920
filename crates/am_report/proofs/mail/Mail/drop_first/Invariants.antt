use Rattle.std.proofs.Common.{◌≡◌}
use Rattle.am_report.specs.Mail.{goes}
use Rattle.am_report.proofs.MailLemmas.{NoneBefore}
use Rattle.am_report.proofs.mail.Mail.drop_first.Given as goal

abbrev pub invariant-loop-place : goal.invariant-loop-place
invariant-loop-place l =
    (l.self-inside.letters ≡ l.initial.self-inside.letters)
    × NoneBefore (goes l.fn.way) l.place l.initial.self-inside.letters.items
