pub mod Together
pub mod UnitsSent
pub mod KeysShared
