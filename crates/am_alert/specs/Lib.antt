pub mod Held
pub mod HeldAlert
pub mod Made
pub mod Posted
pub mod Written
