pub mod Held
pub mod Counted
pub mod Rooted
pub mod LabelNames
pub mod Plain
pub mod ForestLemmas
