pub mod Turns
pub mod Openness
pub mod Passing
pub mod Counting
pub mod Settling
