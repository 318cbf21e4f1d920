-- a decision that stands in for the real one
pub mod StandIn
-- scenarios, line by line
pub mod Scenario
-- the rows: what is played, and what comes of it
pub mod Rows
-- three runs in which the words on acknowledged writes are evaluated
pub mod Stays
