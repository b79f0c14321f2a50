pub mod KeptLemmas
pub mod NameLemmas
pub mod ResultLemmas
pub mod SlotLemmas
pub mod TicketLemmas
pub use Rattle.ticket_list.proofs as ticket_list
