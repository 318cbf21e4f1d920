use Rattle.std.proofs.Common.{◌≡◌, ◌∙◌, ◌<◌, ap, arith, get_or, length, map, sym}
use Rattle.std.proofs.lemmas.List.{get_or-map, length-map}
use Rattle.am_table.proofs.QuestionLemmas.{questions_at}
use Rattle.am_table.proofs.questions.questions_of.Goals as goal

pub loop-number-preserved : goal.loop-number-preserved
loop-number-preserved c =
    let xs = c.args.lists.now in
    let lists = map (λ list. list.now) xs in
    let i = c.loop-number.number in
    let list = c.index-lists-number.result in
    let within : i < length lists = omega (arith, c.loop-number-test.true, length-map xs (λ l. l.now)) in
    let is : list.now ≡ get_or lists i list.now =
    ap (λ l. l.now) c.index-lists-number.is ∙ sym (get_or-map (λ l. l.now) xs i list list.now c.loop-number-test.true) in
    rw (c.in_ok-add_questions.ensures, c.loop-number.invariant) (questions_at lists i list.now within is)
