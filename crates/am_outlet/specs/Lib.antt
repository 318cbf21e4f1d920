pub mod Requests
pub mod Statuses
pub mod Outcomes
pub mod Attempts
pub mod Desks
