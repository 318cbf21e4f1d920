pub mod NarrowLemmas
pub mod HolderLemmas
pub mod ColumnLemmas
pub mod QuestionLemmas
pub mod TableLemmas
