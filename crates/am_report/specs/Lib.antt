pub mod Ending
pub mod Mail
pub mod Names
pub mod Output
pub mod Said
pub mod Tries
