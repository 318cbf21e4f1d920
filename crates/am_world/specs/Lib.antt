-- what stands at the place of an instance
pub mod Places
-- the stores of all of them
pub mod Shelves
-- events by which the ring or its instances change
pub mod Changes
-- what is so of a world between events
pub mod Consistent
-- the messages between instances
pub mod Posting
-- one instance does something
pub mod Turning
-- when an event is refused
pub mod Refusal
-- that a world is the private cluster of every tenant at once
pub mod Simulation
-- .. that each event keeps it so
pub mod Steps
-- why an event stops instances
pub mod Stopping
-- what it leaves in their stores
pub mod Leaving
-- ticks
pub mod Ticks
-- what instances do where the ring or one of them changes
pub mod Changing
-- how a world is opened
pub mod Opening
-- the ring, and for which tenants each instance is settled
pub mod Standing
-- whole runs
pub mod Runs
