pub mod MailLemmas
pub mod NamesLemmas
