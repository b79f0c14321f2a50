pub mod Keys
pub mod Words
pub mod FirstFault
pub mod Gives
pub mod Line
pub mod Forms
pub mod Formats
pub mod NameObjects
pub mod Names
pub mod Provenance
pub mod Tests
pub mod JsonTexts
pub mod RecordKinds
pub mod Kinds
pub mod Reading
pub mod Taken
pub mod Edited
pub mod Texts
pub mod Read
pub use Rattle.cpe_uri.specs as cpe_uri
pub use Rattle.snapshot_bytes.specs as snapshot_bytes
