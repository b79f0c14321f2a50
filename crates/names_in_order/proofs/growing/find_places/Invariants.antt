use Rattle.std.proofs.Common.{◌≡◌, ◌+◌, ◌++◌, ◌≤◌, length}
use Rattle.std.specs.List.{AllByRecursion, filter, flat_map}
use Rattle.name_index.specs.declared.table.NameId.{NameId}
use Rattle.name_index.specs.Table.{IsLive}
use Rattle.name_index.specs.Index.{is_covered}
use Rattle.names_in_order.specs.Held.{places_of_name}
use Rattle.names_in_order.specs.InOrder.{names_numbered}
use Rattle.names_in_order.proofs.growing.find_places.Given as goal

abbrev pub invariant-loop-id : goal.invariant-loop-id
invariant-loop-id g l =
    let place = places_of_name (names_numbered l.table l.numbers.numbers) l.table in
    record {
      live : AllByRecursion (λ (id : NameId). IsLive l.table id.0) l.id-iterator;
      later : l.fn.steps ≤ l.steps;
      looked : l.steps + length l.id-iterator ≡ l.fn.steps + length l.initial.id-iterator;
      found : l.places.items ++ flat_map place (filter (is_covered l.table l.name) l.id-iterator) ≡ flat_map place (filter (is_covered l.table l.name) l.initial.id-iterator);
    }
