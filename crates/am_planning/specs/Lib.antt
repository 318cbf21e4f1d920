-- what a configuration plans
pub mod Planning
