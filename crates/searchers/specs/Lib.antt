pub mod Ends
pub mod Groups
pub mod Leaving
pub mod Modes
pub mod Order
pub mod Table
