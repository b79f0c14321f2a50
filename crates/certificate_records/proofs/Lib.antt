pub mod Mapped
pub mod Givens
pub mod Levels
pub mod Names
pub mod Forms
pub mod NamesRead
pub mod WhysRead
pub mod CertificatesRead
pub mod NoRecords
pub mod GoodForms
pub use Rattle.record_writer.proofs as record_writer
