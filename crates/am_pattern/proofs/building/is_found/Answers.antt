use Rattle.std.proofs.Common.{◌∙◌, ap, is_some}
use Rattle.regex.specs.Patterns.{find_str}
use Rattle.am_pattern.proofs.ReadLemmas.{is_match_as_read}
use Rattle.am_pattern.proofs.building.is_found.Goals as goal

pub returns-clause-found : goal.returns-clause-found
returns-clause-found c = λ regex same config read.
    c.is_match.ensures.found ∙ ap (λ pattern. is_some (find_str pattern c.args.value.now 0)) same
    ∙ is_match_as_read regex config read c.args.value.now (λ k. (c.type_inv.value k).fits)
