pub mod Maps
pub mod Table
pub mod Cuts
pub mod Named
pub mod Timed
pub mod Stays
pub mod Behind
