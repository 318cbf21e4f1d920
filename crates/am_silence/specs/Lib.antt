-- the refusals by their codes
pub mod Refusals
-- what the object of a posted body says
pub mod Written
-- what a posted body comes to
pub mod Posted
-- builds that were refused
pub mod Unbuilt
-- which pattern decides where one is refused
pub mod Deciding
-- silences as values, and their states
pub mod Silences
-- what is held of them
pub mod Held
-- what a post or a deletion changes
pub mod Changing
-- which of them have matchers
pub mod Having
-- rows of flags by column
pub mod Rows
