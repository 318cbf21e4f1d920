use Rattle.std.proofs.Common.{rules, codes, bytes_eq, not}
use Rattle.std.proofs.lemmas.List.Elements.{filter_from_retain}
use Rattle.am_query.specs.declared.query.Parameter.{Parameter}
use Rattle.am_query.proofs.query.drop_unprocessed.Goals as goal

pub returns : goal.returns
returns c =
    filter_from_retain _ (λ (p : Parameter). not (bytes_eq p.name (codes "unprocessed"))) (λ p x b q k. search rules) _ _ _ c.retain.ensures.filtered
