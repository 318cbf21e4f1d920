-- the groups of alerts, in the order in which they are listed
pub mod Groups
-- the JSON of the list
pub mod Written
-- groups with the places of their alerts, as the code has them
pub mod Places
