pub mod Timer
pub mod KeyTotal
pub mod Queue
pub mod Tied
pub mod Calls
