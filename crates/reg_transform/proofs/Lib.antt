pub mod Finding
pub mod Elements
pub mod PathTables
pub mod Values
pub mod Limits
pub mod Checks
