pub mod Writes
pub mod Mentioned
pub mod Targets
pub mod Doubles
pub mod Blocks
pub mod DriverFaults
pub mod Told
pub mod Driven
