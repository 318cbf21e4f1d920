use Rattle.std.proofs.lemmas.Result.{on_ok_weaker}
use Rattle.am_cluster.specs.RingChanges.{other_restarted}
use Rattle.am_site.specs.Here.{here_of}
use Rattle.am_site.proofs.Moving.{moves}
use Rattle.am_instance.proofs.restarting.follow_at.Goals as goal

pub returns-in-Own-clause-moves : goal.returns-in-Own-clause-moves
returns-in-Own-clause-moves c = rw c.in-Own.is c.ask_if_holding.ensures.reacts

pub returns-in-Own-clause-fault : goal.returns-in-Own-clause-fault
returns-in-Own-clause-fault c = rw c.in-Own.is c.ask_if_holding.ensures.fault

pub returns-in-Other-clause-moves : goal.returns-in-Other-clause-moves
returns-in-Other-clause-moves c =
    rw c.in-Other.is (on_ok_weaker c.other_restarted.result
    (moves c.args.here.now.tenant.now (other_restarted (here_of c.args.here.now) c.in-Other.restarted) c.args.site.now
    c.other_restarted.new.self c.args.outbox.now.items c.other_restarted.new.outbox.items) c.other_restarted.ensures.reacts)

pub returns-in-Other-clause-fault : goal.returns-in-Other-clause-fault
returns-in-Other-clause-fault c = rw c.in-Other.is c.other_restarted.ensures.fault
