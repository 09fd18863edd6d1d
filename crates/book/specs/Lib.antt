pub mod Calls
pub mod Book
pub mod Law
pub mod Reached
pub mod Cases
