pub mod Dropping
pub mod Following
pub mod Wearing
