mod Among
mod Order
pub mod CoverLemmas
mod MarkLemmas
mod ShapeLemmas
mod StayLemmas
mod SortLemmas
pub mod LineRows
