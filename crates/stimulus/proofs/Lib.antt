pub mod Placed
pub mod Alike
pub mod Joined
