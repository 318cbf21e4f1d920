use Rattle.std.proofs.Common.{◌≡◌, ◌∙◌, IfOk, ap, subst, sym}
use Rattle.am_item.specs.Best.{best}
use Rattle.am_item.proofs.BestLaws.{best-rising}
use Rattle.am_wire.specs.Items.{items_in}
use Rattle.am_wire.proofs.items.Items.held.Goals as goal

pub returns-in-Held : goal.returns-in-Held
returns-in-Held c =
    let is : c.args.self.now ≡ c.in-Held.held = sym c.self.view_is ∙ ap items_in c.in-Held.is in
    subst (λ xs. IfOk c.snapshot.result (λ held. held ≡ xs)) (sym (ap best is ∙ best-rising c.in-Held.held c.snapshot.ensures.rising)) c.snapshot.ensures.same
