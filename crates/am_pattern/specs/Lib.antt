-- what a pattern is, and what it takes
pub mod Taking
-- why a text is refused, and which texts are kept as refused
pub mod Refused
-- what clauses see of a cache
pub mod Cache
-- which patterns a cache keeps, and what they take
pub mod Kept
-- what a call that asks leaves in a cache
pub mod Asking
