pub mod Ascii
pub mod Refusal
pub mod Same
pub mod Tables
