pub mod ChainTexts
pub use Rattle.line_session.proofs.cpe_io as cpe_io
