use Rattle.std.proofs.Common.{◌∙◌}
use Rattle.am_listing.proofs.Steps.{text_shown}
use Rattle.am_listing.proofs.listing.list_alerts.Goals as goal

pub returns-clause-text : goal.returns-clause-text
returns-clause-text c =
    (rw (c.deref.ensures.value, c.in_ok-read.ensures) at c.in_ok-body.ensures)
    ∙ text_shown c.args.config.now c.args.query.now c.args.moment c.args.held.now c.in_ok-shown.shown.items c.in_ok-shown.ensures.shown
