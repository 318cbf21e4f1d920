-- what is decided on a request
pub mod Replied
-- the decision on a request to the silences
pub mod Silences
-- the decision on a request
pub mod Decision
-- posted label sets of which no alert is held
pub mod Fresh
-- the patterns of requests and of what is stored
pub mod Patterns
-- what is returned, against the decision
pub mod Deciding
-- how requests are refused for patterns that aren't built, and which stored ones they ask
pub mod Refusing
-- what may be decided on a request
pub mod Choice
