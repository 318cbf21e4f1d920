-- what a query asks
pub mod Queries
-- the patterns of queries
pub mod Patterns
-- what is returned where a build was refused
pub mod Unbuilt
-- where the judging of parameters stops
pub mod Stopping
