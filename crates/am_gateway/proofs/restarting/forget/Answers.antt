use Rattle.std.proofs.Common.{rules, ◌==◌, not}
use Rattle.std.proofs.lemmas.Fn.{filter_same}
use Rattle.am_gateway.proofs.restarting.forget.Goals as goal

pub returns : goal.returns
returns c = filter_same _ (λ j. not (j == c.args.number)) _ (λ x b f' k. search rules) _ _ c.retain.ensures.filtered
