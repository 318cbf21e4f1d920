-- label sets that are taken, matcher by matcher
pub mod Narrowing
-- lists of matchers and what they take
pub mod Tables
-- the label sets that have a label
pub mod Holders
-- the values of a label, by their places
pub mod Columns
