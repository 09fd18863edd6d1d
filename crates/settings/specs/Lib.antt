pub mod Given
pub mod Kinds
pub mod Letters
pub mod Searches
