mod Chosen
mod Shown
