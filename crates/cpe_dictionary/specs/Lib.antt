pub mod Numbers
pub mod Faults
pub mod Answers
pub mod Edits
pub mod Kept
pub mod Causes
pub mod Plans
pub mod Sources
pub mod Given
pub mod Room
pub mod Listed
pub mod GivenEntries
pub mod EntryRoom
pub use Rattle.deprecation_graph.specs as deprecation_graph
pub use Rattle.names_in_order.specs as names_in_order
