pub mod Numbered
pub mod Parts
pub mod Holding
pub mod Planned
pub mod Checked
pub mod Moved
pub mod Prelude
pub mod Ready
pub mod ChangedVerdicts
pub mod Looks
pub use Rattle.fact_laws.specs as fact_laws
