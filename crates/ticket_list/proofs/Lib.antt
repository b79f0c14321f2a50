pub mod RisingLemmas
mod MarkLemmas
mod SlotLemmas
mod FoundLemmas
mod ChangeLemmas
pub mod TicketLemmas
