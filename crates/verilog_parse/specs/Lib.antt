pub mod Generates
pub mod Modules
pub mod Files
pub mod Items
pub mod Lasts
