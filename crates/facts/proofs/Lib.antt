pub mod ChangeLemmas
pub mod LevelLemmas
pub mod UsedLemmas
pub mod UserLemmas
pub mod MoveLemmas
pub mod AddLemmas
pub mod PutLemmas
pub mod LessLemmas
pub mod TakeLemmas
pub mod LeadLemmas
pub mod LeadMove
pub mod RoomLemmas
pub mod PartLemmas
pub use Rattle.fact_laws.proofs as fact_laws
