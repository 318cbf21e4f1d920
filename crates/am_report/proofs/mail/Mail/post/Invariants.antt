use Rattle.std.proofs.Common.{◌≡◌, ◌++◌, take}
use Rattle.am_report.specs.Mail.{letters_in}
use Rattle.am_report.proofs.mail.Mail.post.Given as goal

abbrev pub invariant-loop-output : goal.invariant-loop-output
invariant-loop-output l = l.self ≡ l.fn.self ++ letters_in (take l.output-index l.outputs)
