use Rattle.std.proofs.Common.{◌≡◌, true, ap, sym, ◌∙◌, rules}
use Rattle.am_transfer.specs.Pieces.{Reach, begins_behind, reach_of, reach_with}
use Rattle.am_transfer.proofs.Behind.{reach_behind}
use Rattle.am_transfer.proofs.spans.Spans.put.Goals as goal

pub invariant_of-self-2 : goal.invariant_of-self-2
invariant_of-self-2 c =
    let es = c.self.inside.by_place.entries in
    let begins : begins_behind c.args.place es ≡ true = search rules in
    c.reach_with-self-inside.ensures ∙ ap (λ (r : Reach). reach_with r (c.args.place, c.args.span)) c.self.invariant
    ∙ reach_behind c.args.place c.args.span es c.insert-2.ensures.was_ordered begins ∙ ap reach_of (sym c.in_ok-insert-2.ensures.entries)
