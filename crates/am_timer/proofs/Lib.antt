pub mod Orders
pub mod TiedLemmas
pub mod Tenants
pub mod DueLemmas
pub mod Dropping
pub mod Alone
