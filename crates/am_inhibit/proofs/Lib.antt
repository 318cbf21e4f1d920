-- keys and their order
pub mod KeyLemmas
-- lists of places
pub mod PlaceLemmas
-- classes of label sets
pub mod ClassLemmas
-- lists of sources that come to targets
pub mod LinkLemmas
-- rules, and the flags that they give
pub mod RuleLemmas
-- the inhibitors of each alert, and their places
pub mod InhibitorLemmas
-- flags that are set at places
pub mod MarkLemmas
-- rules, each once
pub mod DifferentLemmas
-- targets that wait for a list
pub mod WaitingLemmas
