pub mod Current
pub mod Replacing
