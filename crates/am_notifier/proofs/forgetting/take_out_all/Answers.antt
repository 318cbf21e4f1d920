use Rattle.std.proofs.Common.{◌∙◌, sym, ap, arith}
use Rattle.std.proofs.lemmas.List.{nil_from_length}
use Rattle.am_agenda.specs.Planned.{plan_of}
use Rattle.am_notifier.specs.Forgetting.{plan_left}
use Rattle.am_notifier.proofs.Leaving.{last_left, next_left}
use Rattle.am_notifier.proofs.forgetting.take_out_all.Goals as goal

pub loop-thing-preserved : goal.loop-thing-preserved
loop-thing-preserved c = λ t.
    let plan = plan_of t c.loop-thing.agenda in
    ap (plan_left t _) (c.in_ok-take_out.ensures t)
    ∙ next_left t c.in-Some.thing.0 _ plan c.in-Some.thing.1
    ∙ sym (ap (λ gone. plan_left t gone plan) c.in-Some.ensures.steps.0)
    ∙ c.loop-thing.invariant t

pub returns : goal.returns
returns c = λ t.
    let plan = plan_of t c.loop-thing.agenda in
    last_left t plan
    ∙ sym (ap (λ gone. plan_left t gone plan) (nil_from_length c.loop-thing.thing-iterator.rest.items (omega (arith, c.loop-thing.thing-iterator.rest.ok.0, c.in-None.ensures.steps.0))))
    ∙ c.loop-thing.invariant t
