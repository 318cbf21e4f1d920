pub mod Codes
pub mod Fit
pub mod Refusing
pub mod Rows
