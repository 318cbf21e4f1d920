mod Among
mod Blank
mod Brought
mod Dropping
pub mod Elsewhere
mod Flushes
mod Following
mod Forced
pub mod Growing
mod Held
mod Learns
pub mod Leaves
pub mod Noting
pub mod Opening
pub mod Reacting
pub mod Rings
pub mod Saying
mod Standings
mod Ticked
mod Turning
mod Turns
pub mod Whole
