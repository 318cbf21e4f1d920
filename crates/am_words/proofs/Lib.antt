pub mod PlaceLemmas
pub mod DrawLemmas
pub mod IdLemmas
