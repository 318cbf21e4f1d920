-- what clauses see of a matcher
pub mod Matchers
-- what matchers take
pub mod Meaning
-- the grammar of a text of matchers
pub mod Reading
-- the texts of matchers as they may be written
pub mod Forms
-- what was read, as UTF-8
pub mod InBytes
-- why a text of matchers is refused
pub mod Checking
-- why matchers that are asked give no answer
pub mod Asking
-- the refusals by their codes
pub mod Refusals
-- how matchers are printed
pub mod Printing
-- the bytes of matchers, as they are written
pub mod Spelling
-- and as they are taken
pub mod Taking
