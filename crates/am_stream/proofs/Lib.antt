pub mod LinesLemmas
pub mod WritingLemmas
