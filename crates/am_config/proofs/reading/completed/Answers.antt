use Rattle.std.proofs.Common.{◌≡◌, Ok, map, sym, ◌∙◌}
use Rattle.am_config.specs.Completing.{completed, receivers_of, routes_with, rule_of}
use Rattle.am_config.specs.Inheriting.{settings_of}
use Rattle.am_config.proofs.Judgements.{completed_read, passed}
use Rattle.am_config.proofs.Settled.{owns_known}
use Rattle.am_config.proofs.Shapes.{forest-owns, length-settings}
use Rattle.am_config.proofs.reading.completed.Goals as goal

pub settings_of-requires-clause-forest : goal.settings_of-requires-clause-forest
settings_of-requires-clause-forest c =
    let draft = c.args.draft.now in
    let terms = c.args.terms.now in
    rw c.as_slice-2.ensures
    (forest-owns draft.receivers draft.routes terms.owns (owns_known draft terms (passed draft terms c.requires.passed).known) c.requires.tree)

pub routes_with-requires-clause-settings : goal.routes_with-requires-clause-settings
routes_with-requires-clause-settings c =
    let draft = c.args.draft.now in
    let terms = c.args.terms.now in
    rw (c.deref.ensures.value, c.in_ok-settings.ensures, c.as_slice-2.ensures, c.as_slice-4.ensures)
    (length-settings draft.receivers draft.routes terms.owns (owns_known draft terms (passed draft terms c.requires.passed).known) c.requires.tree)

pub invariant_of-result : goal.invariant_of-result
unfolding completed
invariant_of-result c =
    let draft = c.args.draft.now in
    let terms = c.args.terms.now in
    let found = c.in_ok-receivers.receivers.items in
    let read : receivers_of draft.receivers ≡ Ok found = rw c.as_slice.ensures at c.in_ok-receivers.ensures.value in
    let routes : c.from_vec.result ≡ routes_with (settings_of terms.owns) draft.routes =
    rw (c.deref.ensures.value, c.in_ok-settings.ensures, c.as_slice-2.ensures, c.as_slice-4.ensures) at (c.from_vec.ensures ∙ c.in_ok-routes.ensures) in
    let receivers : c.from_vec-2.result ≡ found = c.from_vec-2.ensures in
    let rules : c.from_vec-3.result ≡ map rule_of draft.rules = rw c.as_slice-5.ensures at (c.from_vec-3.ensures ∙ c.in_ok-rules.ensures) in
    rw (c.in_ok-copy.ensures, routes, receivers, rules)
    (completed_read draft terms found c.requires.passed c.requires.read (sym c.counts_fit.ensures ∙ c.if-not-counts_fit.false) read c.requires.again)
