pub mod Gains
pub mod Sums
pub mod Totals
