pub mod Results
pub mod Views
