use Rattle.std.proofs.Common.{sym, ◌∙◌}
use Rattle.std.proofs.lemmas.Result.{IfErr-weaker, on_ok_weaker}
use Rattle.am_cluster.specs.RingChanges.{just_opened}
use Rattle.am_cluster.specs.Transfers.{asks_first}
use Rattle.am_site.specs.Here.{here_of}
use Rattle.am_site.specs.Locals.{local_of}
use Rattle.am_site.proofs.Moving.{moves, moves_from}
use Rattle.am_site.proofs.Reacting.{nothing, stops_from}
use Rattle.am_site.proofs.Restarted.{opens_empty, opens_holding}
use Rattle.am_site.proofs.site.Site.ask_if_holding.Goals as goal

pub returns-then-not-holds_any-clause-reacts : goal.returns-then-not-holds_any-clause-reacts
returns-then-not-holds_any-clause-reacts c =
    let here = here_of c.args.here.now in
    let x = c.args.outbox.now.items in
    moves here.tenant (just_opened here) c.args.self.now c.args.self.now x x
    (nothing here.tenant (just_opened here) c.args.self.now x (opens_empty here (local_of here.tenant c.args.self.now) (sym c.holds_any.ensures ∙ c.if-not-holds_any.true)))

pub returns-clause-reacts : goal.returns-clause-reacts
returns-clause-reacts c =
    let here = here_of c.args.here.now in
    on_ok_weaker c.ask_first.result
    (λ asks. moves_from here.tenant (asks_first here) (just_opened here) c.args.self.now
    (opens_holding here (local_of here.tenant c.args.self.now) (sym c.holds_any.ensures ∙ c.if-not-holds_any.false))
    c.ask_first.new.self c.args.outbox.now.items c.ask_first.new.outbox.items asks)
    c.ask_first.ensures.reacts

pub returns-clause-fault : goal.returns-clause-fault
returns-clause-fault c =
    let here = here_of c.args.here.now in
    IfErr-weaker c.ask_first.result _ _
    (stops_from here.tenant (asks_first here) (just_opened here) c.args.self.now
    (opens_holding here (local_of here.tenant c.args.self.now) (sym c.holds_any.ensures ∙ c.if-not-holds_any.false)))
    c.ask_first.ensures.fault
