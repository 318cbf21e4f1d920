use Rattle.std.proofs.Common.{◌∙◌, ◌<◌, ◌++◌, ◌∷◌, [], Vec, Global, arith, ap, cond, false, get_or, length, not, sym, take, ℕ}
use Rattle.std.specs.Bool.{beq}
use Rattle.std.proofs.lemmas.List.{get_or_default}
use Rattle.am_column.specs.Flags.{differing}
use Rattle.am_column.proofs.FlagLemmas.{differing_more}
use Rattle.am_column.proofs.flags.differing.Goals.{then-answers-number+in_ok-push, else-answers-number}
use Rattle.am_column.proofs.flags.differing.Goals as goal

pub loop-number-preserved : goal.loop-number-preserved
loop-number-preserved c =
    let others = c.args.others in
    let places = c.args.places.now in
    let answers = c.args.answers.now in
    let i = c.loop-number.number in
    let place = get_or places i 0 in
    let answer = get_or answers i false in
    let within : i < length places = c.loop-number-test.true in
    let inside : i < length answers = omega (arith, within, c.requires) in
    let found = differing others (take i places) (take i answers) in
    let more = differing_more others places answers i place answer within inside (get_or_default places i 0 place within) (get_or_default answers i false answer inside) in
    let test = not (beq answer others) in
    elim c.if-answers-number.branch [
      | then-answers-number+in_ok-push w ↦
          ap (λ (v : Vec ℕ Global). v.items) w.found-is ∙ w.in_ok-push.ensures.items
          ∙ ap (λ before. before ++ place ∷ []) c.loop-number.invariant
          ∙ ap (λ b. cond b (found ++ place ∷ []) found) (sym w.if-answers-number.true)
          ∙ sym more
      | else-answers-number w ↦
          ap (λ (v : Vec ℕ Global). v.items) w.found-is ∙ c.loop-number.invariant
          ∙ ap (λ b. cond b (found ++ place ∷ []) found) (sym w.if-answers-number.false)
          ∙ sym more
    ]
