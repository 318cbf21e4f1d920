pub mod Row
pub mod Book
pub mod Retired
