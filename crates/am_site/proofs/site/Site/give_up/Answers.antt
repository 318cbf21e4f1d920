use Rattle.std.proofs.Common.{OnOk, ap, subst, ◌∙◌}
use Rattle.am_cluster.specs.Operating.{finish, timed_out}
use Rattle.am_cluster.specs.Reactions.{where_some}
use Rattle.am_http.specs.Replies.{reply}
use Rattle.am_quorum.specs.Operations.{operation_at}
use Rattle.am_site.specs.Reacting.{Reacts}
use Rattle.am_site.proofs.Quiet.{given_up_quiet, quiet_in_order}
use Rattle.am_site.proofs.Sound.{given_up_sound}
use Rattle.am_site.specs.Here.{here_of}
use Rattle.std.proofs.lemmas.Result.{on_ok_weaker}
use Rattle.am_site.proofs.site.Site.give_up.Goals as goal

pub returns-clause-reacts : goal.returns-clause-reacts
returns-clause-reacts c =
    let is = c.in_ok-reply.ensures ∙ ap (reply 503) (c.as_slice.ensures ∙ c.in_ok-body.ensures) in
    subst (λ bytes. OnOk c.finish.result (Reacts c.args.here.now.tenant.now (λ l. where_some (finish bytes) (operation_at c.args.number l.operations) l) c.args.self.now c.finish.new.self c.args.outbox.now.items c.finish.new.outbox.items))
    is c.finish.ensures

pub returns-clause-order : goal.returns-clause-order
returns-clause-order c order =
    let here = here_of c.args.here.now in
    on_ok_weaker c.finish.result
    (λ reacts. quiet_in_order here (λ l. where_some timed_out (operation_at c.args.number l.operations) l) c.args.self.now c.finish.new.self c.args.outbox.now.items c.finish.new.outbox.items (given_up_quiet here c.args.number) (given_up_sound here c.args.number) reacts order)
    (returns-clause-reacts c)
