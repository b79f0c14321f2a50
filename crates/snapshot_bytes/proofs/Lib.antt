mod PartLemmas
pub mod Loop
mod TestLemmas
pub mod Readers
pub mod PartReaders
pub mod RowReaders
mod TestReaders
pub mod RowsReader
mod WriteLemmas
pub mod StateLemmas
mod SmallCases
mod StoredTextLemmas
pub mod TextLemmas
mod ShortLemmas
pub mod NameLemmas
