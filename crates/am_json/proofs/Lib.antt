pub mod Chain
pub mod Json
pub mod Rising
pub mod Taken
