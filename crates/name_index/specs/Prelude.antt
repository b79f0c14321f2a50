-- What most contracts about tables and indexes of names use.
pub use Rattle.cpe_name.specs.Equal.{same_name}
pub use Rattle.cpe_name.specs.Lower.{IsLower}
pub use Rattle.cpe_relation.specs.NameRelation.{covers}
pub use Rattle.cpe_relation.specs.Maybe.{maybe}
pub use Rattle.cpe_relation.specs.Order.{IsOrder}
pub use Rattle.step_count.specs.Within.{StepsWithin}
pub use Rattle.name_index.specs.Elements.{SameElements}
pub use Rattle.name_index.specs.Table.{HasName, IsLive, Names, kept_at}
pub use Rattle.name_index.specs.Index.{ids, is_covered}
