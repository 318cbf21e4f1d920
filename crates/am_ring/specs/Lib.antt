-- the numbers of instances, and which of them are in a ring
pub mod Instances
-- joins and leaves, and why they are refused
pub mod Changes
-- how far an instance lies from a place
pub mod Distances
-- the replicas of a tenant
pub mod Replicas
-- the refusals by their codes
pub mod Codes
