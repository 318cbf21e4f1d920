pub mod AskedLemmas
pub mod FailureLemmas
pub mod PlacesLemmas
pub mod RoutesLemmas
pub mod KnownLemmas
pub mod TableLemmas
