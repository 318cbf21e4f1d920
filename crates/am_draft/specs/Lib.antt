-- the refusals and their codes
pub mod Refusals
-- the trees that flat lists hold
pub mod Forests
-- the keys of each kind of object
pub mod Keys
-- lists of label names
pub mod Names
-- routes and those within them
pub mod Routes
-- receivers and their webhooks
pub mod Receivers
-- inhibit rules
pub mod Rules
-- a configuration as it is written
pub mod Drafts
-- the names of labels in it
pub mod LabelNames
