-- moments of events
pub mod Moments
-- the rings so far
pub mod Rings
-- why an event is refused
pub mod Refused
-- the instances
pub mod Roster
-- messages
pub mod Messages
-- open operations
pub mod Operations
-- what an instance goes by
pub mod Here
-- what an instance has of a tenant
pub mod Local
-- what an instance does, and says
pub mod Reactions
-- messages that it sends
pub mod Sending
-- what it has planned
pub mod Plans
-- items that it accepts
pub mod Accepting
-- what becomes of what is retired
pub mod Retiring
-- notices
pub mod Delivery
-- the flush of a group
pub mod Flushing
-- operations
pub mod Operating
-- how it settles
pub mod Transfers
-- rings that it learns, and restarts
pub mod RingChanges
-- a tick
pub mod Ticking
-- messages that reach it
pub mod Arriving
-- messages that were sent
pub mod Sent
-- what comes in and goes out
pub mod Events
-- what happens to a tenant
pub mod Happening
-- the private cluster of a tenant
pub mod PrivateCluster
-- what comes of what happens
pub mod Courses
-- decisions and acknowledged writes
pub mod Deciding
-- patterns
pub mod Patterns
-- what events are to a tenant
pub mod View
-- whose an output is
pub mod Outputs
-- facts about what was sent
pub mod SentFacts
-- names of messages are given once
pub mod Naming
-- acknowledged writes stay
pub mod AcknowledgedWrites
-- tenants whom nothing has named
pub mod Unnamed
-- clusters whose ring stays as it was opened
pub mod Steady
-- where replies go
pub mod Replying
