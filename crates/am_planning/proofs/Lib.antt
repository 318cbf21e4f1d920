mod Groups
mod Pairs
