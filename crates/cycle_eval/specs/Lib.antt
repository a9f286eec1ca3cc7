pub mod Designs
pub mod Inputs
pub mod Kits
pub mod Paths
pub mod DesignLaws
