-- the routes of labels
pub mod Routes
-- the matchers that are asked
pub mod Asked
-- what is known of the answers
pub mod Answers
