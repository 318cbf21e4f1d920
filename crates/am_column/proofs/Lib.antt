pub mod PlacesLemmas
pub mod FlagLemmas
pub mod AlikeLemmas
