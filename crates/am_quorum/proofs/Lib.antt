pub mod Numbered
pub mod Targets
pub mod Seen
pub mod Deadlines
pub mod Timed
pub mod Started
pub mod Others
