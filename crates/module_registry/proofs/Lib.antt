pub mod Lines
pub mod Held
pub mod News
pub mod Making
