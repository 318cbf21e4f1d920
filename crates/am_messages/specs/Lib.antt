-- names of messages
pub mod Names
-- messages that were sent
pub mod Posted
