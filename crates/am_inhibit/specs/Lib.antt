-- label sets that are alike
pub mod Alike
-- their classes
pub mod Classes
-- lists of places that alerts share
pub mod Links
-- which alerts inhibit which
pub mod Inhibits
-- the two sides of a rule
pub mod Sides
