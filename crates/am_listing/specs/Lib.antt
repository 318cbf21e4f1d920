-- the receivers of alerts
pub mod Receivers
-- which alerts a query shows
pub mod Shown
-- the JSON of the list
pub mod Written
-- patterns that give no answer
pub mod Failing
-- alerts on the way to the list
pub mod Listed
