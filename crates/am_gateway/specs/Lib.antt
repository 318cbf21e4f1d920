pub mod Learning
pub mod Passing
pub mod Restarting
pub mod Serving
pub mod Sorting
pub mod Gateway
