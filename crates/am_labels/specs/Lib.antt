pub mod Labels
pub mod Sets
pub mod Hashes
pub mod Flat
