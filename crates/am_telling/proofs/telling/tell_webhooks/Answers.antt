use Rattle.std.proofs.Common.{◌∷◌, ◌++◌, [], sym, ap, ◌∙◌}
use Rattle.am_group.specs.Deeds.{deed}
use Rattle.am_telling.specs.Tellings.{telling_of}
use Rattle.am_telling.proofs.Chosen.{no_more, one_more}
use Rattle.am_telling.proofs.telling.tell_webhooks.Goals as goal

pub loop-act-preserved-in-Continue-branch-5 : goal.loop-act-preserved-in-Continue-branch-5
loop-act-preserved-in-Continue-branch-5 c =
    let by = telling_of c.args.flushed.now.receiver.now c.args.flushed.now.group.now c.args.flushed.now.settings c.args.flushed.now.moment in
    c.in_ok-push.ensures.items ∙ ap (λ done. done ++ c.in-Some-2.telling ∷ []) c.loop-act.invariant
    ∙ one_more by deed c.loop-act.yielded c.in-Some.act c.in-Some-2.telling (sym c.in_ok-telling.ensures ∙ c.in-Some-2.is)

pub loop-act-preserved : goal.loop-act-preserved
loop-act-preserved c =
    let by = telling_of c.args.flushed.now.receiver.now c.args.flushed.now.group.now c.args.flushed.now.settings c.args.flushed.now.moment in
    c.loop-act.invariant ∙ no_more by deed c.loop-act.yielded c.in-Some.act (sym c.in_ok-telling.ensures ∙ c.in_default.is)
