-- What most contracts about names in order use.
pub use Rattle.name_index.specs.cpe_name.Lower.{IsLower}
pub use Rattle.name_index.specs.step_count.Within.{StepsWithin}
pub use Rattle.names_in_order.specs.InOrder.{AreInOrder, names_numbered, same_id}
pub use Rattle.names_in_order.specs.Places.{looked_count, near_count, places_covered}
