-- the order of groups
mod Orders
-- lists of entries in order, by what is found in them
mod Entries
-- what stands under each group
mod Under
-- places, and the alerts that stand there
mod Members
-- how the list comes about
mod Steps
