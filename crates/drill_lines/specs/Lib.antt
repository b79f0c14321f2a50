pub mod Generated
pub mod Looks
pub mod Outcome
pub mod Summary
pub mod Drill
