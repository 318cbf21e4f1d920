pub mod InUse
pub mod Stays
mod Retiring
