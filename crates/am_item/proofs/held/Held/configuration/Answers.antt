use Rattle.std.proofs.Common.{◌++◌, ap, sym, ◌∙◌}
use Rattle.std.specs.Option.{option_map}
use Rattle.am_item.specs.Best.{item_at}
use Rattle.am_item.specs.Held.{configuration_item, configuration_items}
use Rattle.am_item.specs.Key.{ConfigurationKey}
use Rattle.am_item.specs.Kinds.{alerts_of, entries_of, silences_of}
use Rattle.am_item.proofs.Whole.{at_whole, in_a_row}
use Rattle.am_item.proofs.held.Held.configuration.Goals as goal

pub returns-clause-whole : goal.returns-clause-whole
returns-clause-whole c =
    sym c.self.view_is ∙ in_a_row c.self.inside
    ∙ ap (λ xs. configuration_items c.self.inside.configuration ++ (silences_of xs ++ (alerts_of xs ++ entries_of xs))) c.self.view_is
    ∙ ap (λ o. configuration_items o ++ (silences_of c.args.self.now ++ (alerts_of c.args.self.now ++ entries_of c.args.self.now))) (sym c.value_of.ensures)

pub returns-clause-at : goal.returns-clause-at
returns-clause-at c = ap (option_map configuration_item) c.value_of.ensures ∙ sym (at_whole ConfigurationKey c.self.inside) ∙ ap (item_at ConfigurationKey) c.self.view_is
