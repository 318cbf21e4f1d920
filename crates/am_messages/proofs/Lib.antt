pub mod Orders
pub mod Timed
pub mod Dropping
