pub mod Incidents
pub mod Lines
pub mod Throttling
pub mod Releases
