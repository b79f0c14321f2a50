pub mod Users
pub mod Facts
pub mod Looks
pub mod Calls
pub mod Leads
pub mod LeadCalls
pub mod Room
pub use Rattle.fact_rows.specs as fact_rows
pub use Rattle.fact_rows.specs.ticket_list as ticket_list
pub use Rattle.fact_boards.specs.level_board as level_board
pub use Rattle.fact_laws.specs as fact_laws
