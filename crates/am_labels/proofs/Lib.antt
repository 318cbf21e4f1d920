pub mod Hashes
pub mod Ordered
pub mod InOrder
pub mod Values
pub mod Refusing
pub mod Rules
pub mod Flattening
