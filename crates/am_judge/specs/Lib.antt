-- why a configuration is refused
pub mod Reasons
-- places in lists
pub mod Places
-- what stands where
pub mod Kinds
-- what is at fault
pub mod Faults
-- what it is that is
pub mod Causes
-- the first place at which something is
pub mod Search
-- what becomes of a file
pub mod Judging
