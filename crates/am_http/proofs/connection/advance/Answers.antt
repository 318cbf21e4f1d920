use Rattle.std.proofs.Common.{◌≡◌, ◌≢◌, ◌∙◌, sym, ap, take, drop, arith}
use Rattle.std.proofs.lemmas.List.{take-append-drop}
use Rattle.am_http.specs.declared.request.Fed.TheVariants as fed
use Rattle.am_http.specs.Verdict.{verdict}
use Rattle.am_http.proofs.StageLemmas.{goes_on, ended_within, same_head, long_start}
use Rattle.am_http.proofs.VerdictLemmas.{verdict-more}
use Rattle.am_http.proofs.connection.advance.Goals as goal

pub at_end-requires-clause-ended : goal.at_end-requires-clause-ended
at_end-requires-clause-ended c =
    goes_on c.args.text.now c.args.before c.in-Head.place c.requires.within (rw c.in-Head.is at c.requires.stands).reached ∙ sym c.in-Ended.ensures

pub at_end-requires-clause-within : goal.at_end-requires-clause-within
at_end-requires-clause-within c =
    ended_within c.args.text.now c.in-Ended.n
    (goes_on c.args.text.now c.args.before c.in-Head.place c.requires.within (rw c.in-Head.is at c.requires.stands).reached ∙ sym c.in-Ended.ensures)

pub returns-in-Open : goal.returns-in-Open
returns-in-Open c =
    long_start c.args.text.now c.in-Open.field-0
    (goes_on c.args.text.now c.args.before c.in-Head.place c.requires.within (rw c.in-Head.is at c.requires.stands).reached ∙ sym c.in-Open.ensures)
    (omega arith)

pub returns-in-Open-2 : goal.returns-in-Open-2
returns-in-Open-2 c = record {
  reached = goes_on c.args.text.now c.args.before c.in-Head.place c.requires.within (rw c.in-Head.is at c.requires.stands).reached ∙ sym c.in-Open.ensures;
  short = omega arith;
}

pub returns-in-Body : goal.returns-in-Body
returns-in-Body c =
    same_head c.args.text.now c.args.before c.in-Body.plan c.in-Body.n c.requires.within (rw c.in-Body.is at c.requires.stands)

pub returns-in-Refused : goal.returns-in-Refused
returns-in-Refused c =
    let refused = rw c.in-Refused.is at c.requires.stands in
    let front = take c.args.before c.args.text.now in
    let decided : verdict front ≢ fed.Waits = λ waits. let differ : fed.Refused c.in-Refused.refusal ≡ fed.Waits = sym refused ∙ waits in cc in
    ap verdict (sym (take-append-drop c.args.before c.args.text.now))
    ∙ verdict-more front (drop c.args.before c.args.text.now) decided ∙ refused
