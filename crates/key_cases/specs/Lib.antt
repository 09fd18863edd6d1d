pub mod Piers
