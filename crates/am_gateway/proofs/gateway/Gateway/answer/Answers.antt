use Rattle.std.proofs.Common.{◌∙◌, ap, inr, sym}
use Rattle.am_gateway.specs.Passing.{asked_in}
use Rattle.am_gateway.proofs.HearingLemmas.{handles, lets_before, replies_still, taken, unreplied_on}
use Rattle.am_gateway.proofs.gateway.Gateway.answer.Goals as goal

pub returns-in-Err-clause-err : goal.returns-in-Err-clause-err
returns-in-Err-clause-err g c = record {
  reached = inr (_, handles _ _ _ _ _ _ c.step.ensures.step c.pass_all.ensures c.sort.ensures.forgets, record { queues = c.in-Err.ensures.err.queues; keeps = c.in-Err.ensures.err.keeps });
  is_tick_due = c.sort.ensures.is_tick_due;
  under_way = c.sort.ensures.under_way;
  vain = c.sort.ensures.vain;
  same = record {
    moment = c.sort.ensures.same.moment;
    ready = c.sort.ensures.same.ready;
  };
}

pub returns-in-Ok-None-clause-verdict : goal.returns-in-Ok-None-clause-verdict
returns-in-Ok-None-clause-verdict g c =
    unreplied_on g.W.AnyWorld.contents _ _ _ c.args.self.now c.sort.new.self c.unreplied.new.self _
    c.asked_tenant-asked.result (sym (c.asked_tenant-asked.ensures ∙ ap asked_in c.outputs.ensures)) (record {
      taken = taken c.step.result _ c.step.ensures.refused _ c.is_err.ensures.value c.if-is_err.false;
      handles = handles _ _ _ _ _ _ c.step.ensures.step c.pass_all.ensures c.sort.ensures.forgets;
      reply_is = sym (sym c.in-Ok-None.field-0-is ∙ c.in-Ok-None.ensures.reply);
      sorts = record { queues = c.in-Ok-None.ensures.sorted.queues; keeps = c.in-Ok-None.ensures.sorted.keeps };
      under_way = c.sort.ensures.under_way;
      vain = c.sort.ensures.vain;
      same = record { moment = c.sort.ensures.same.moment; ready = c.sort.ensures.same.ready };
    })
    c.sort.ensures.is_tick_due c.unreplied.ensures

pub returns-in-Ok-Some-clause-verdict : goal.returns-in-Ok-Some-clause-verdict
returns-in-Ok-Some-clause-verdict g c = rw c.into_vec.ensures (
  _,
  replies_still g.W.AnyWorld.contents _ _ _ _ c.args.self.now c.sort.new.self c.note.new.self c.note.ensures.rest (record {
    taken = taken c.step.result _ c.step.ensures.refused _ c.is_err.ensures.value c.if-is_err.false;
    handles = handles _ _ _ _ _ _ c.step.ensures.step c.pass_all.ensures c.sort.ensures.forgets;
    reply_is = sym (sym c.in-Ok-Some.field-0-is ∙ c.in-Ok-Some.ensures.reply);
    sorts = record { queues = c.in-Ok-Some.ensures.sorted.queues; keeps = c.in-Ok-Some.ensures.sorted.keeps };
    under_way = c.sort.ensures.under_way;
    vain = c.sort.ensures.vain;
    same = record {
      moment = c.sort.ensures.same.moment;
      ready = c.sort.ensures.same.ready;
    };
  }),
  lets_before c.args.self.now c.sort.new.self c.note.new.self _ c.sort.ensures.is_tick_due c.sort.ensures.same.ready
      c.note.ensures.is_tick_due,
)
