use Rattle.std.proofs.Common.{rules}
use Rattle.am_pattern.specs.Kept.{HasRegex}
use Rattle.am_pattern.proofs.ReadLemmas.{pattern-ok}
use Rattle.am_pattern.proofs.building.build_pattern.Goals as goal

pub returns-clause-is_pattern : goal.returns-clause-is_pattern
returns-clause-is_pattern c = pattern-ok c.build_text.result c.args.pattern.now (search rules)

pub returns-clause-regex : goal.returns-clause-regex
unfolding HasRegex
returns-clause-regex c = search rules
