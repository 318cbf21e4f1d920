pub mod Grouping
pub mod Notices
pub mod Deeds
