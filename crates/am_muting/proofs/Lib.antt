-- what mutes the alert at each place
mod Places
-- the label sets of all alerts, and those of the muted ones
mod Chosen
-- for callers: patterns that give no answer
pub mod Failures
