use Rattle.std.proofs.Common.{rules, ◌≡◌, Ok}
use Rattle.am_draft.specs.Drafts.{draft_in}
use Rattle.am_config.proofs.Judgements.{meant, result_meant, text_of}
use Rattle.am_config.proofs.config.Config.read_text.Goals as goal

pub returns-clause-again : goal.returns-clause-again
returns-clause-again c = search rules

pub returns-clause-failure : goal.returns-clause-failure
returns-clause-failure c = search rules

pub returns-clause-built : goal.returns-clause-built
returns-clause-built c =
    let read : draft_in c.args.text.now ≡ Ok c.in_ok-draft.draft = search rules in rw read c.judged.ensures.built

pub returns-clause-ok : goal.returns-clause-ok
returns-clause-ok c = result_meant (draft_in c.args.text.now) c.judged.result (returns-clause-again c)

pub returns-clause-text : goal.returns-clause-text
returns-clause-text c = text_of c.args.text.now c.judged.result (returns-clause-again c)

pub returns-clause-meaning : goal.returns-clause-meaning
returns-clause-meaning c =
    meant c.args.cache.now c.judged.new.cache (draft_in c.args.text.now) c.judged.result (returns-clause-ok c) (returns-clause-failure c)
