pub mod Capped
pub mod Gain
