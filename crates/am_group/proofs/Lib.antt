pub mod LabelSets
pub mod Telling
