pub mod Grammar
pub mod Unbound
pub mod Scanning
pub mod Spans
pub mod SpanValues
pub mod Rewriting
pub mod Bound
pub mod Writing
pub mod Unquoting
pub mod Component
pub use Rattle.cpe_name.specs as cpe_name
