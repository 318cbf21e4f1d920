use Rattle.std.proofs.Common.{ap, sym, ◌∙◌}
use Rattle.am_item.specs.Best.{item_at}
use Rattle.am_item.specs.Key.{AlertKey}
use Rattle.am_item.specs.Kinds.{alerts_of}
use Rattle.am_item.proofs.Whole.{alerts_whole, at_whole}
use Rattle.am_item.proofs.held.Held.alerts.Goals as goal

pub returns-clause-items : goal.returns-clause-items
returns-clause-items c = sym (alerts_whole c.self.inside) ∙ ap alerts_of c.self.view_is

pub returns-clause-at : goal.returns-clause-at
returns-clause-at c = λ labels. sym (at_whole (AlertKey labels) c.self.inside) ∙ ap (item_at (AlertKey labels)) c.self.view_is
