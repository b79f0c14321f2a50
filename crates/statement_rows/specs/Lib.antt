pub mod Tickets
pub mod Readings
pub mod Askers
pub mod ByResult
pub mod Rows
pub mod State
pub mod Invariant
pub mod Room
