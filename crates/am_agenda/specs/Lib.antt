pub mod Paces
pub mod Plan
pub mod Planned
