-- The words that most contracts about names and their relations use, gathered in one file.
pub use Rattle.cpe_name.specs.Eleven.{Values}
pub use Rattle.cpe_name.specs.Equal.{same_name}
pub use Rattle.cpe_name.specs.Lower.{IsLower}
pub use Rattle.cpe_relation.specs.NameRelation.{covers}
pub use Rattle.cpe_relation.specs.Maybe.{maybe}
pub use Rattle.cpe_relation.specs.Order.{IsOrder}
