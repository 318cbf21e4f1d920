pub mod BuildLemmas
pub mod HeldLemmas
pub mod EqualLemmas
pub mod PostedLemmas
pub mod DecidingLemmas
pub mod HavingLemmas
pub mod RowLemmas
