use Rattle.std.proofs.Common.{◌≡◌, ◌++◌, take}
use Rattle.am_table.proofs.QuestionLemmas.{numbered}
use Rattle.am_table.proofs.questions.add_questions.Given as goal

abbrev pub invariant-loop-matcher : goal.invariant-loop-matcher
invariant-loop-matcher l = l.questions.items ≡ l.fn.questions.items ++ numbered l.number (take l.matcher-index l.matchers)
