pub mod Registered
pub mod Given
pub mod Moved
pub use Rattle.check_results.specs as check_results
pub use Rattle.names_in_order.specs as names_in_order
