pub mod LawLemmas
pub mod ThrottleLemmas
