-- receivers by name
pub mod Receivers
-- the JSON of replies
pub mod Written
-- the JSON of groups of alerts
pub mod Groups
-- what is listed, as the code has it
pub mod Listed
-- the JSON of silences
pub mod Silences
-- the JSON body of a notice to a webhook
pub mod Webhook
-- what it tells, as the code has it
pub mod Told
-- what all alerts of a notice have
pub mod Common
