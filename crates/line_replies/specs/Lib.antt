pub mod Chains
pub mod Replies
pub mod Reasons
pub mod CertificateReplies
pub use Rattle.line_session.specs as line_session
pub use Rattle.line_session.specs.cpe_io as cpe_io
