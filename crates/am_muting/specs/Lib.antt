-- what mutes alerts
pub mod Muting
-- what mutes each of many, as the code has it
pub mod Mutes
-- what is asked of alerts, as the code has it
pub mod Asked
-- patterns that give no answer
pub mod Failing
