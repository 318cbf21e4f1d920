-- what clauses see of a configuration
pub mod Configuration
-- the refusals and their codes
pub mod Refusals
-- the checks that a draft passes or fails
pub mod Checks
-- the places of receivers by their names
pub mod Places
-- what routes say themselves
pub mod Terms
-- what holds for each route
pub mod Inheriting
-- the matchers of a draft
pub mod Matching
-- where the reading of matchers stops
pub mod Stopping
-- the configuration that a draft makes
pub mod Completing
-- the configuration that holds where none is stored
pub mod Default
-- the checks in their order
pub mod Judging
-- what holds of every configuration
pub mod Configured
