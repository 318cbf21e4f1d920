-- identifiers as text
pub mod Ids
-- the random words of a tenant
pub mod Words
-- the identifiers that are drawn from them
pub mod Draws
-- how far the words of all tenants are used
pub mod Places
