pub mod Playing
pub mod Scenario
pub mod Trace
