use Rattle.std.proofs.Common.{◌∙◌, ◌<◌, All, Bool, Vec, Global, ap, arith, false, get_or, length, replicate, subst, sym}
use Rattle.std.proofs.lemmas.List.{length-replicate}
use Rattle.am_column.specs.Flags.{cleared, kept}
use Rattle.am_column.proofs.FlagLemmas.{differing_within, length-cleared, length-kept, met_by_clearing, met_by_keeping, split_first}
use Rattle.am_column.proofs.flags.meet.Goals.{then-others, else-others+in_ok-left}
use Rattle.am_column.proofs.flags.meet.Goals as goal

pub clear-requires : goal.clear-requires
clear-requires c =
    let most = length c.args.flags.now.items in
    subst (All (λ place. place < most)) (sym (c.deref.ensures.value ∙ c.in_ok-apart.ensures))
    (differing_within (get_or c.args.answers.now 0 false) c.args.places.now _ most c.requires.within)

pub keep-requires : goal.keep-requires
keep-requires c =
    let most = length c.deref-else-others-2.result.now in
    let same = ap length c.deref-else-others-2.ensures.value in
    subst (All (λ place. place < most)) (sym (c.deref-else-others.ensures.value ∙ c.in_ok-apart.ensures))
    (differing_within (get_or c.args.answers.now 0 false) c.args.places.now _ most
    (subst (λ n. All (λ place. place < n) c.args.places.now) (sym same) c.requires.within))

pub returns-clause-each : goal.returns-clause-each
returns-clause-each c = elim c.if-others.branch [
  | then-others w ↦
      ap (λ (v : Vec Bool Global). length v.items) w.flags-is ∙ ap length w.clear.ensures ∙ length-cleared w.deref.result.now c.args.flags.now.items
  | else-others+in_ok-left w ↦
      let flags = w.deref-else-others-2.result.now in
      ap (λ (v : Vec Bool Global). length v.items) w.flags-is ∙ ap length w.in_ok-left.ensures
      ∙ length-kept w.deref-else-others.result.now flags (replicate (length flags) false)
      ∙ length-replicate (length flags) false
      ∙ ap length w.deref-else-others-2.ensures.value
]

pub returns-clause-flags : goal.returns-clause-flags
returns-clause-flags c = λ k below.
    let answers = c.args.answers.now in
    let places = c.args.places.now in
    let others = get_or answers 0 false in
    let parts = split_first answers (omega (arith, c.requires.each)) in
    let apart = c.in_ok-apart.apart.items in
    let flags = c.args.flags.now.items in
    elim c.if-others.branch [
      | then-others w ↦
          ap (λ (v : Vec Bool Global). get_or v.items k false) (w.flags-is) ∙ ap (λ fs. get_or fs k false) w.clear.ensures
          ∙ ap (λ ps. get_or (cleared ps flags) k false) w.deref.ensures.value
          ∙ met_by_clearing places apart answers _ flags others parts c.in_ok-apart.ensures w.if-others.true k
      | else-others+in_ok-left w ↦
          ap (λ (v : Vec Bool Global). get_or v.items k false) (w.flags-is) ∙ ap (λ fs. get_or fs k false) w.in_ok-left.ensures
          ∙ ap (λ ps. get_or (kept ps w.deref-else-others-2.result.now (replicate (length w.deref-else-others-2.result.now) false)) k false) w.deref-else-others.ensures.value
          ∙ ap (λ fs. get_or (kept apart fs (replicate (length fs) false)) k false) w.deref-else-others-2.ensures.value
          ∙ met_by_keeping places apart answers _ flags others parts c.in_ok-apart.ensures w.if-others.false
          (subst (All (λ place. place < length flags)) (sym c.in_ok-apart.ensures) (differing_within others places _ (length flags) c.requires.within)) k
    ]
