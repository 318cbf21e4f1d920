-- the open operations of a tenant
pub mod Operations
-- .. with how many it has had
pub mod Dockets
-- .. and when each is given up
pub mod Deadlines
