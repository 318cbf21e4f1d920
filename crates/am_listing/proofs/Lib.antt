-- lists that are filtered
mod Lists
-- receivers once each
mod Counting
-- for callers: patterns that give no answer
pub mod Failures
-- what mutes the alert at each place
mod Places
-- alerts that are chosen, with their receivers
mod Chosen
-- how the alerts that are shown come about
mod Steps
