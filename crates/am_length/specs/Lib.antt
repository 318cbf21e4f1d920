-- numbers in 64 bits
pub mod Capped
-- how many bytes spell a thing
pub mod Lengths
