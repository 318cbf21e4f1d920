use Rattle.std.proofs.Common.{rules}
use Rattle.am_draft.specs.Drafts.{draft_in}
use Rattle.am_config.proofs.Judgements.{given_ok, result_meant, text_of}
use Rattle.am_config.proofs.config.Config.reread.Goals as goal

pub returns-clause-read : goal.returns-clause-read
returns-clause-read c = search rules

pub returns-clause-ok : goal.returns-clause-ok
returns-clause-ok c = result_meant (draft_in c.args.text.now) c.rejudged.result (given_ok c.rejudged.result _ (returns-clause-read c))

pub returns-clause-text : goal.returns-clause-text
returns-clause-text c =
    text_of c.args.text.now c.rejudged.result (given_ok c.rejudged.result _ (returns-clause-read c))
