-- patterns whose build was refused
pub mod Builds
-- why a posted configuration is refused
pub mod ConfigurationLemmas
-- for callers: the counts of a decision's items
pub mod Counts
-- for callers: what was returned is what may be decided
pub mod Choice
-- what no refusal adds but that of a pattern which is not built
mod Keeping
-- the replies to requests whose patterns are refused
mod Replies
-- how many alerts are held once posted ones have come
mod MergedCount
-- how posted label sets are counted
mod Counting
-- which patterns are in use, and which a configuration has that is stored
mod StoredLemmas
-- the patterns of silences that are stored
mod StoredSilences
-- the patterns of the items of a decision
mod StoredItems
-- the texts that are refused more
pub mod Adding
-- what is built before a request is accepted
mod Accepting
