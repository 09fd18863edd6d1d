pub mod Letters
pub mod Spelling
pub mod Signs
pub mod Same
pub mod ReadBack
pub mod Tied
