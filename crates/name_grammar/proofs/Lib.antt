pub mod Results
pub mod Scans
pub mod Several
pub mod Choices
pub mod Reading
pub mod Places
