-- what an instance goes by
pub mod Here
-- what it has of each tenant
pub mod Locals
-- what it does where something happens to one
pub mod Reacting
-- what it does with answers
pub mod Deciding
-- .. and with items that are put to it
pub mod Putting
-- .. and for its notices
pub mod Notices
-- what is due at a tick
pub mod Due
-- what is so of each tenant between calls
pub mod InOrder
-- what it does with messages that come
pub mod Arriving
-- what the opening of its store makes of it
pub mod Opening
-- what it does by force, and where the ring changes
pub mod Learning
