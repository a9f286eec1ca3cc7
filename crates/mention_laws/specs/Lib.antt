pub mod Leaves
pub mod Placed
pub mod Shown
pub mod Example
