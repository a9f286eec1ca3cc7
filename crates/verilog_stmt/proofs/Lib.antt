pub mod StatementTrees
pub mod Complete
pub mod OneStatement
pub mod NamedStatements
pub mod RenamedTrees
pub mod RenamedStatement
pub mod PlacedStatements
