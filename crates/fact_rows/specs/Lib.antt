pub mod Rows
pub mod Facts
pub mod Truths
pub mod Calls
pub use Rattle.ticket_list.specs as ticket_list
