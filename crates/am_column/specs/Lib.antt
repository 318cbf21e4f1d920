-- where values stand
pub mod Places
-- flags at places
pub mod Flags
-- which values are equal
pub mod Alike
