use Rattle.std.proofs.Common.{ap}
use Rattle.am_text.specs.Outcome.{◌>>=◌, outcome_map}
use Rattle.am_json.proofs.Json.{json_none}
use Rattle.am_draft.specs.Drafts.{draft_in, draft_of, said_by_text}
use Rattle.am_draft.specs.Refusals.{refusal_of}
use Rattle.am_draft.proofs.draft.Draft.read_text.Goals as goal

pub returns-in-Err-clause-draft : goal.returns-in-Err-clause-draft
unfolding draft_in said_by_text
returns-in-Err-clause-draft c =
    ap (λ read. outcome_map refusal_of (read >>= draft_of c.args.text.now))
    (json_none c.args.text.now (λ utf8. absurd (c.in-Err.ensures.cases.0 utf8)))
