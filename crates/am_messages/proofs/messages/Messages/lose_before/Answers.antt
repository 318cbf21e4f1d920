use Rattle.std.proofs.Common.{sym, ◌∙◌}
use Rattle.am_messages.specs.Posted.{posted_at}
use Rattle.am_messages.proofs.Timed.{none_lost, over_by, timed_kept}
use Rattle.am_messages.proofs.messages.Messages.lose_before.Goals as goal

pub loop-lapse-preserved : goal.loop-lapse-preserved
loop-lapse-preserved c =
    let es = c.loop-lapse.self-inside.sent.entries in
    record {
      timed = timed_kept es c.forget.new.sent.entries c.loop-lapse.self-inside.lapses c.pop_lapse.new.lapses c.loop-lapse.invariant.timed c.in-Some.lapse
          c.in-Some.ensures.others c.forget.ensures;
      left = λ n.
          over_by c.args.now c.in-Some.lapse n (posted_at n es) (posted_at n c.forget.new.sent.entries) c.in-Some.ensures.due (c.forget.ensures n)
          ∙ c.loop-lapse.invariant.left n;
    }

pub returns : goal.returns
returns c = λ n.
    sym (none_lost c.args.now c.loop-lapse.self-inside.sent.entries c.loop-lapse.self-inside.lapses c.loop-lapse.invariant.timed c.in_default.ensures.none n)
    ∙ c.loop-lapse.invariant.left n
