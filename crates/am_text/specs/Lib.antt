pub mod DateTime
pub mod Duration
pub mod Moment
pub mod Outcome
pub mod Printing
pub mod Reading
pub mod Trees
