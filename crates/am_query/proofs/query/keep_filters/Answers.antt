use Rattle.std.proofs.Common.{rules, codes, bytes_eq}
use Rattle.std.proofs.lemmas.List.Elements.{filter_from_retain}
use Rattle.am_query.specs.declared.query.Parameter.{Parameter}
use Rattle.am_query.proofs.query.keep_filters.Goals as goal

pub returns : goal.returns
returns c =
    filter_from_retain _ (λ (p : Parameter). bytes_eq p.name (codes "filter")) (λ p x b q k. search rules) _ _ _ c.retain.ensures.filtered
