pub mod Written
pub mod Puts
pub mod NameObject
pub mod WrittenRecord
pub use Rattle.cpe_records.specs as cpe_records
