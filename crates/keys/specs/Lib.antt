pub mod Berths
pub mod Found
pub mod Routes
pub mod ReadBack
