use Rattle.std.proofs.lemmas.List.Elements.{All-append}
use Rattle.am_pattern.specs.Kept.{HasRegex}
use Rattle.am_pattern.specs.Refused.{IsRefusedRightly}
use Rattle.am_api.specs.Patterns.{patterns_of_items, patterns_of_request}
use Rattle.am_api.proofs.StoredItems.{decided_among}
use Rattle.am_api.proofs.StoredLemmas.{in_use_among, all_among}
use Rattle.am_api.proofs.laws.stored_patterns_were_asked.Goals as goal

pub returns-clause-stored : goal.returns-clause-stored
returns-clause-stored c = λ request held limits moment maker words refused own stored.
    all_among (λ p. IsRefusedRightly refused p) _ _ (decided_among request held limits moment maker words)
    (All-append (λ p. IsRefusedRightly refused p) (patterns_of_request request) (patterns_of_items held) own stored)

pub returns-clause-built : goal.returns-clause-built
returns-clause-built c = λ request held limits moment maker words own stored.
    all_among HasRegex _ _ (decided_among request held limits moment maker words)
    (All-append HasRegex (patterns_of_request request) (patterns_of_items held) own stored)

pub returns-clause-in_use : goal.returns-clause-in_use
returns-clause-in_use c = λ held moment refused rightly.
    all_among (λ p. IsRefusedRightly refused p) _ _ (in_use_among moment held) rightly

pub returns-clause-built_in_use : goal.returns-clause-built_in_use
returns-clause-built_in_use c = λ held moment built. all_among HasRegex _ _ (in_use_among moment held) built
