pub mod Scripts
pub mod Lengths
