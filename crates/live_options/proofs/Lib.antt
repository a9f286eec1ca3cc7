pub mod Numbers
pub mod Taken
pub mod Words
pub mod Bounds
pub mod Worked
