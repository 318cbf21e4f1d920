pub mod BreakLemmas
pub mod ChangingLemmas
pub mod MailLemmas
pub mod PlayingLemmas
pub mod ScenarioLemmas
pub mod TraceLemmas
