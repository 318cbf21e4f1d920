-- what is seen of an instance
pub mod Instance
-- what it goes by for a tenant
pub mod Here
-- its site
pub mod Site
-- .. and its node
pub mod Node
-- the tenants of whom it may have something
pub mod Tenants
-- what is so of it between calls
pub mod Whole
-- what it does for one tenant
pub mod Reacting
-- .. and with bytes of a connection
pub mod Bringing
-- .. and with a message
pub mod Receiving
-- .. and at a tick
pub mod Ticks
-- .. and where its ring or another instance changes
pub mod Changing
-- its store
pub mod Shelves
-- .. and what a call leaves there
pub mod Leaving
-- for which tenants it is settled
pub mod Standing
