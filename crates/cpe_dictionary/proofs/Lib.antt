pub mod Numbering
pub mod Fitting
pub mod Moving
pub mod Rooms
pub mod Places
pub mod Edited
pub mod Faulted
pub mod Answered
pub mod Asked
pub mod SeenLemmas
pub mod Translating
pub mod SuccessorLemmas
pub mod DictionaryLemmas
pub mod PlanLemmas
pub mod LeftLemmas
pub mod SourceLemmas
pub mod LawfulNodes
pub mod GivenLemmas
pub mod GivenGraph
pub mod GivenNumbers
pub mod KeptLemmas
pub mod AtNumbers
pub mod EntryLemmas
pub mod GivenDetails
pub use Rattle.deprecation_graph.proofs as deprecation_graph
pub use Rattle.names_in_order.proofs as names_in_order
