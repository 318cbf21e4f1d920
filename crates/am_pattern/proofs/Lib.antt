-- from the clauses of the `regex` crate
pub mod ReadLemmas
-- the tests of specs/
pub mod Decided
-- the entries of a cache
pub mod KeptLemmas
-- the texts that it has as refused
pub mod NotedLemmas
-- for callers: what calls leave in a cache
pub mod AskingLemmas
