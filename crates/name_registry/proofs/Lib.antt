pub mod HeldLemmas
pub mod FitLemmas
pub mod EndLemmas
pub mod ItemLemmas
pub mod FoundLemmas
