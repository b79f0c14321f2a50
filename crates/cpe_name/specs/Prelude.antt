-- Definitions that most contracts about names use, in one place.
pub use Rattle.cpe_name.specs.Eleven.{Values}
pub use Rattle.cpe_name.specs.Names.{IsName, attributes, named}
pub use Rattle.cpe_name.specs.Equal.{same_name}
pub use Rattle.cpe_name.specs.Lower.{IsLower, lower_name}
pub use Rattle.cpe_name.specs.WfnText.{WfnText, IsWfnText}
pub use Rattle.cpe_name.specs.Spans.{texts}
pub use Rattle.cpe_name.specs.Borrowed.{name_lent}
