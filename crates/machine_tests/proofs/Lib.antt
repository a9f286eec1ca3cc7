pub mod Temporaries
pub mod Works
