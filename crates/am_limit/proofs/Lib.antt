pub mod BookLemmas
pub mod CountLemmas
mod AllowanceLemmas
