use Rattle.std.proofs.Common.{◌==◌, ap, sym, ◌∙◌}
use Rattle.std.proofs.lemmas.Result.{IfErr-weaker, on_ok_weaker}
use Rattle.am_site.specs.Deciding.{shared_as}
use Rattle.am_site.specs.Here.{here_of}
use Rattle.am_site.proofs.CarriedOut.{replies, sends, stops_sending}
use Rattle.am_site.proofs.site.Site.carry_out.Goals as goal

pub returns-then-is_empty-clause-reacts : goal.returns-then-is_empty-clause-reacts
returns-then-is_empty-clause-reacts c = λ o there epoch.
    replies c.args.here.now.tenant.now (here_of c.args.here.now) o (shared_as c.args.decided) c.args.target.number c.in_ok-reply.reply c.args.self.now c.stamp.new.self c.args.outbox.now.items
    (rw c.as_slice.ensures at c.in_ok-reply.ensures) there c.in_ok-stamp.ensures c.finish.new.self c.finish.new.outbox.items
    (ap (λ n. n == 0) (sym c.args.decided.items.ok.0) ∙ sym c.is_empty.ensures ∙ c.if-is_empty.true) c.in_ok-finish.ensures

pub returns-clause-reacts : goal.returns-clause-reacts
returns-clause-reacts c =
    on_ok_weaker c.send_all.result
    (λ sent o there epoch. sends c.args.here.now.tenant.now (here_of c.args.here.now) o (shared_as c.args.decided) c.args.target.number c.in_ok-reply.reply c.args.self.now c.stamp.new.self c.args.outbox.now.items
    (rw c.as_slice.ensures at c.in_ok-reply.ensures) there c.in_ok-stamp.ensures c.args.target.epoch c.in_ok-from_vec.field-0 c.wait.new.self
    (ap (λ n. n == 0) (sym c.args.decided.items.ok.0) ∙ sym c.is_empty.ensures ∙ c.if-is_empty.false) epoch c.in_ok-from_vec.ensures c.wait.ensures c.send_all.new.self c.send_all.new.outbox.items sent)
    c.send_all.ensures.reacts

pub returns-clause-fault : goal.returns-clause-fault
returns-clause-fault c =
    IfErr-weaker c.send_all.result _ _
    (λ fault stops o there epoch. stops_sending c.args.here.now.tenant.now (here_of c.args.here.now) o (shared_as c.args.decided) c.args.target.number c.in_ok-reply.reply c.args.self.now c.stamp.new.self c.args.outbox.now.items
    (rw c.as_slice.ensures at c.in_ok-reply.ensures) there c.in_ok-stamp.ensures c.args.target.epoch c.in_ok-from_vec.field-0 c.wait.new.self
    (ap (λ n. n == 0) (sym c.args.decided.items.ok.0) ∙ sym c.is_empty.ensures ∙ c.if-is_empty.false) epoch c.in_ok-from_vec.ensures c.wait.ensures fault stops)
    c.send_all.ensures.fault
