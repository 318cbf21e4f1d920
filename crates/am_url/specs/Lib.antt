-- what a webhook's URL is, and what it says
pub mod Urls
