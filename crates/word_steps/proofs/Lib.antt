pub mod Words
pub mod Steps
pub mod Halves
pub mod Signs
