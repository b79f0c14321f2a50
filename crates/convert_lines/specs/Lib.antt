pub mod Convert
pub mod Growing
pub use Rattle.cpe_records.specs as cpe_records
pub use Rattle.line_replies.specs as line_replies
