pub mod Views
pub mod Clocks
pub mod Connections
