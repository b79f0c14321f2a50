pub mod Session
pub mod Folding
pub mod Statuses
pub mod Task
pub mod Ran
pub mod PageText
pub mod Pages
pub mod Table
pub mod Heard
pub mod Prelude
pub use Rattle.cpe_io.specs as cpe_io
pub use Rattle.step_count.specs as step_count
