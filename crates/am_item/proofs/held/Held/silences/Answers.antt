use Rattle.std.proofs.Common.{ap, sym, ◌∙◌}
use Rattle.am_item.specs.Best.{item_at}
use Rattle.am_item.specs.Key.{SilenceKey}
use Rattle.am_item.specs.Kinds.{silences_of}
use Rattle.am_item.proofs.Whole.{silences_whole, at_whole}
use Rattle.am_item.proofs.held.Held.silences.Goals as goal

pub returns-clause-items : goal.returns-clause-items
returns-clause-items c = sym (silences_whole c.self.inside) ∙ ap silences_of c.self.view_is

pub returns-clause-at : goal.returns-clause-at
returns-clause-at c = λ id. sym (at_whole (SilenceKey id) c.self.inside) ∙ ap (item_at (SilenceKey id)) c.self.view_is
