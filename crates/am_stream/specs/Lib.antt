pub mod Lines
pub mod Link
pub mod Streams
pub mod Writing
