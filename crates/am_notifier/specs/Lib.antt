-- the positions of an instance
pub mod Positions
-- what is planned of a tenant
pub mod Notifies
-- what something comes to
pub mod Steps
-- what is planned for alerts that came
pub mod Following
-- what is planned for what went
pub mod Forgetting
-- what becomes of notices
pub mod Delivery
-- the flush of a group
pub mod Flushing
-- what a notifier is said in
pub mod Planned
