use Rattle.std.proofs.Common.{rules}
use Rattle.am_pattern.proofs.ReadLemmas.{parsed-Reads, unparsed-Refuses, unread-Refuses}
use Rattle.am_pattern.proofs.reading.parse_text.Goals.{in-Ok, in-Err+else-eq+else-eq-2}
use Rattle.am_pattern.proofs.reading.parse_text.Goals as goal

pub returns-then-eq-2-clause-cause : goal.returns-then-eq-2-clause-cause
returns-then-eq-2-clause-cause c =
    unparsed-Refuses c.args.text.now c.in-Err.error.kind (search rules) (search rules)

pub returns-clause-parsed : goal.returns-clause-parsed
returns-clause-parsed c =
    elim c.match-parse.branch [
      | in-Ok w ↦ rw w.result-is (parsed-Reads c.args.text.now (w.in-Ok.field-0.hir, _, rw c.default.ensures at w.in-Ok.ensures.ok))
      | in-Err+else-eq+else-eq-2 w ↦ rw w.result-is tt
    ]

pub returns-clause-cause : goal.returns-clause-cause
returns-clause-cause c =
    elim c.match-parse.branch [
      | in-Ok w ↦ rw w.result-is tt
      | in-Err+else-eq+else-eq-2 w ↦ rw w.result-is (unread-Refuses c.args.text.now w.in-Err.error.kind (rw c.default.ensures at w.in-Err.ensures.err) (search rules) (search rules))
    ]
