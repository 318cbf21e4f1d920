-- for callers: patterns whose build was refused
pub mod Builds
-- what the parameters of a query say together
mod QueryLemmas
-- where the judging of parameters stops
mod StoppingLemmas
