pub mod LimitsFiles
pub mod Changes
pub mod Watching
