pub mod Places
pub mod Shadow
pub mod Happenings
pub mod Claims
pub mod Examples
pub mod BrokenRules
