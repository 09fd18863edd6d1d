pub mod Framed
pub mod Kept
pub mod Largest
pub mod Meant
pub mod Outermost
pub mod Stretched
pub mod Tallied
