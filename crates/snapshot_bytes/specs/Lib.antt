pub mod Parts
pub mod Snapshot
pub mod StoredRows
pub mod States
pub mod Cases
pub mod Reading
