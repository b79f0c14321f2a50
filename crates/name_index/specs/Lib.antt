pub mod Elements
pub mod Blocks
pub mod Places
pub mod Keys
pub mod Listed
pub mod Near
pub mod Placed
pub mod Walk
pub mod Table
pub mod Rows
pub mod Index
pub mod Wanted
pub mod Laws
pub mod Prelude
pub use Rattle.step_count.specs as step_count
pub use Rattle.cpe_name.specs as cpe_name
pub use Rattle.cpe_values.specs as cpe_values
