-- instances in their incarnations
pub mod Peers
-- the pieces of a State
pub mod Pieces
-- how far an instance settled
pub mod Settling
-- what is kept of a tenant
pub mod Progress
-- .. and of every tenant
pub mod Tenants
-- .. and when it is sent again
pub mod Timers
