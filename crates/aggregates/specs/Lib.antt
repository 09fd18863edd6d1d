pub mod Figures
pub mod CatchingUp
pub mod Sets
pub mod KeepingUp
pub mod Writing
