pub mod Declarations
pub mod Apart
pub mod Headers
