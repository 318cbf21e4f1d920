use Rattle.std.proofs.Common.{rules, ◌≡◌, Ok}
use Rattle.std.specs.Prelude.{IfOk}
use Rattle.am_draft.specs.Drafts.{posted}
use Rattle.am_config.specs.Judging.{reading}
use Rattle.am_config.proofs.Judgements.{meant, result_meant, texts_meant}
use Rattle.am_config.proofs.config.Config.read.Goals as goal

pub returns-clause-again : goal.returns-clause-again
returns-clause-again c = search rules

pub returns-clause-failure : goal.returns-clause-failure
returns-clause-failure c = search rules

pub returns-clause-built : goal.returns-clause-built
returns-clause-built c =
    let read : posted c.args.document.now ≡ Ok c.in_ok-draft.draft = search rules in rw read c.judged.ensures.built

pub returns-clause-ok : goal.returns-clause-ok
returns-clause-ok c =
    let read : IfOk c.judged.result (λ made. reading (posted c.args.document.now) ≡ Ok made) = search rules in
    result_meant (posted c.args.document.now) c.judged.result read

pub returns-clause-text : goal.returns-clause-text
returns-clause-text c = texts_meant c.judged.result (returns-clause-again c)

pub returns-clause-meaning : goal.returns-clause-meaning
returns-clause-meaning c =
    meant c.args.cache.now c.judged.new.cache (posted c.args.document.now) c.judged.result (returns-clause-ok c) (returns-clause-failure c)
