pub mod Rising
pub mod Slots
pub mod TicketList
pub mod Tickets
