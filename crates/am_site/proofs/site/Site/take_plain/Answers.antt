use Rattle.std.proofs.lemmas.Result.{on_ok_weaker}
use Rattle.am_cluster.specs.Operating.{answered}
use Rattle.am_site.specs.Here.{here_of}
use Rattle.am_site.proofs.Came.{answered_still, held_still, takes_ack, takes_ask, takes_get, takes_got}
use Rattle.am_site.proofs.site.Site.take_plain.Goals as goal

pub returns-in-Get-clause-takes : goal.returns-in-Get-clause-takes
returns-in-Get-clause-takes c =
    on_ok_weaker c.answer_get.result
    (takes_get c.args.here.now c.args.cache.now.refused c.args.cache.now.refused c.args.message c.args.self.now c.answer_get.new.self c.args.outbox.now.items c.answer_get.new.outbox.items
    c.in-Get.operation c.in-Get.is)
    c.answer_get.ensures.reacts

pub returns-in-Ack-clause-takes : goal.returns-in-Ack-clause-takes
returns-in-Ack-clause-takes c =
    takes_ack c.args.here.now c.args.cache.now.refused c.args.cache.now.refused c.args.message c.args.self.now c.acknowledge.new.self c.args.outbox.now.items c.acknowledge.new.outbox.items
    c.in-Ack.operation c.in-Ack.incarnation c.in-Ack.is (rw c.target-target-in-Ack.ensures at c.in_ok-acknowledge-in-Ack.ensures.reacts)

pub returns-in-Ask-clause-takes : goal.returns-in-Ask-clause-takes
returns-in-Ask-clause-takes c =
    on_ok_weaker c.answer_ask.result
    (takes_ask c.args.here.now c.args.cache.now.refused c.args.cache.now.refused c.args.message c.args.self.now c.answer_ask.new.self c.args.outbox.now.items c.answer_ask.new.outbox.items
    c.in-Ask.incarnation c.in-Ask.is)
    c.answer_ask.ensures.reacts

pub returns-in-Got-clause-takes : goal.returns-in-Got-clause-takes
returns-in-Got-clause-takes c =
    takes_got c.args.here.now c.args.cache.now.refused c.args.cache.now.refused c.args.message c.args.self.now c.take_got.new.self c.args.outbox.now.items
    c.in-Got.incarnation c.in-Got.place c.in-Got.is c.in_ok-take_got-in-Got.ensures.does

pub returns-in-Answer-clause-held : goal.returns-in-Answer-clause-held
returns-in-Answer-clause-held c =
    let given = c.args.here.now in
    on_ok_weaker c.take_answer.result
    (λ answers. held_still given.tenant.now (answered (λ _ _ _ _. answers.decision) (here_of given) _ _ _)
    c.args.self.now c.take_answer.new.self (answered_still (λ _ _ _ _. answers.decision) (here_of given) _ _ _) answers.reacts.local)
    c.take_answer.ensures.answers
