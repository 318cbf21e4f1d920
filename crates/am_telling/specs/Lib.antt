-- what is told at a flush
pub mod Tellings
