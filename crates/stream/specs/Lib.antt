pub mod Views
pub mod Reached
pub mod Steps
