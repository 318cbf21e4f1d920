-- what is held
pub mod Holds
-- what comes with items that are accepted
pub mod Coming
-- what is recorded
pub mod Recording
-- what is left of what is retired
pub mod Retiring
-- what a store keeps
pub mod Storing
