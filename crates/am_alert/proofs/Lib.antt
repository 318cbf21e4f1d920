mod Firing
mod LastOfEach
