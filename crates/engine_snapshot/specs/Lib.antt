pub mod Begun
pub mod Meant
pub mod Read
pub mod Runs
pub mod Within
pub use Rattle.cpe_engine.specs as cpe_engine
