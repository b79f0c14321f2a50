pub mod Choices
pub mod Lent
pub mod Laws
pub mod Steps
pub use Rattle.certificate_check.specs as certificate_check
