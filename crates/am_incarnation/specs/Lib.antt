pub mod Incarnations
