-- what went from what is held
pub mod Gone
-- why a room stops
pub mod Stopping
