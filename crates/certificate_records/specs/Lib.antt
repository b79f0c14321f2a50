pub mod Gives
pub mod Levels
pub mod Written
pub mod Reading
pub mod Whole
pub use Rattle.record_writer.specs as record_writer
pub use Rattle.cpe_uri.specs as cpe_uri
