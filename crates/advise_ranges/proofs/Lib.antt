pub mod ReadLemmas
pub mod KeptLemmas
pub mod WeightLemmas
pub mod GroupLemmas
pub mod PlaceLemmas
pub mod LimitLemmas
