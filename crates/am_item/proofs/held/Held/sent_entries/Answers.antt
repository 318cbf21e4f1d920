use Rattle.std.proofs.Common.{ap, sym, ◌∙◌}
use Rattle.am_item.specs.Best.{item_at}
use Rattle.am_item.specs.Key.{SentEntryKey}
use Rattle.am_item.specs.Kinds.{entries_of}
use Rattle.am_item.proofs.Whole.{entries_whole, at_whole}
use Rattle.am_item.proofs.held.Held.sent_entries.Goals as goal

pub returns-clause-items : goal.returns-clause-items
returns-clause-items c = sym (entries_whole c.self.inside) ∙ ap entries_of c.self.view_is

pub returns-clause-at : goal.returns-clause-at
returns-clause-at c = λ key. sym (at_whole (SentEntryKey key) c.self.inside) ∙ ap (item_at (SentEntryKey key)) c.self.view_is
