pub mod Firsts
pub mod FirstFits
pub mod Ways
pub mod SearchPaths
pub mod SearchSteps
pub mod LentSteps
pub mod Chosen
pub mod MadeGood
pub mod Counted
pub use Rattle.certificate_check.proofs as certificate_check
