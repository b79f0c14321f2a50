pub mod AllFrom
pub mod Lists
pub mod LineLemmas
pub mod LowerNames
pub mod YieldLemmas
pub mod ReadLemmas
pub mod NamesRead
pub mod FilledNames
pub mod Depths
pub mod DraftDepth
pub mod Drafts
pub mod FormedTests
pub mod InTurn
pub mod SoundTests
pub mod StatementTests
pub mod BuiltTests
pub mod WrittenTests
mod Contents
mod Lexemes
pub mod Values
pub mod Prints
pub mod ValidLemmas
pub mod ValidRecords
pub mod Strings
pub mod TestReads
pub mod RecordReads
