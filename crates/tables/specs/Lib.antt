pub mod Altered
pub mod Determined
pub mod Leaving
pub mod Lists
pub mod Places
pub mod Rows
pub mod Seats
pub mod Whole
