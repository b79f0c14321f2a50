pub mod Kept
pub mod Slots
pub mod Results
pub use Rattle.ticket_list.specs as ticket_list
