use Rattle.std.proofs.Common.{◌≡◌, length, ap, ◌∙◌, sym, subst, arith}
use Rattle.serde_json.proofs.Views.{view-Array}
use Rattle.serde_json.specs.View.{view}
use Rattle.am_text.specs.Outcome.{Gives}
use Rattle.am_judge.specs.Kinds.{item_of}
use Rattle.am_judge.proofs.Counted.{checked_array}
use Rattle.am_judge.proofs.search.+walk.Goals as goal

pub check-returns-in-Array : goal.check-returns-in-Array
check-returns-in-Array t c =
    let seen = ap view c.in-Array.is ∙ view-Array c.in-Array.items in
    let own = rw seen at c.in_ok-check_here.ensures in
    let facts = c.args.facts.now in
    let place = c.args.place.now in
    let kind = c.args.kind in
    let values = c.in-Array.items.items in
    let count : c.len.result ≡ length values = omega (arith, c.len.ensures) in
    let item : c.item_of.result ≡ item_of kind (length values) = c.item_of.ensures ∙ ap (item_of kind) count in
    rw seen
    (subst (λ r. Gives (λ _. tt) c.check_items.result r) (sym (checked_array facts place kind values own))
    (rw item at c.check_items.ensures))
