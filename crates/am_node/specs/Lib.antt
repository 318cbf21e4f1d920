-- what an instance has of a tenant, and what it does
pub mod Local
-- what is planned for what is held
pub mod Plans
-- what becomes of items that it accepts
pub mod Accepting
-- what becomes of what is retired
pub mod Retiring
-- what becomes of notices
pub mod Delivery
-- the flush of a group
pub mod Flushing
-- a tick of one tenant
pub mod Ticking
-- a tick of all
pub mod Ticks
-- what it has of all tenants
pub mod Held
-- what it begins with
pub mod Holding
-- what a store keeps
pub mod Storing
-- the notifier of a node
pub mod Notices
