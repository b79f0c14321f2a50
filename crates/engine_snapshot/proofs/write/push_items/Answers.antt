use Rattle.std.proofs.Common.{◌≤◌, ◌++◌, ℕ, [], List, Option, length, ap, ◌∙◌, arith, take_all}
use Rattle.std.specs.List.{flat_map}
use Rattle.std.specs.Option.{option_map_or}
use Rattle.cpe_rows.specs.cpe_name.Eleven.{Values}
use Rattle.snapshot_bytes.specs.Parts.{name}
use Rattle.engine_snapshot.proofs.WriteLemmas.{slots_are}
use Rattle.engine_snapshot.proofs.write.push_items.Goals as goal

pub returns : goal.returns
returns c =
    let slots = c.item_slots-slots.result in
    let row : Option Values → List ℕ = λ o. option_map_or name o [] in
    let past : length slots ≤ c.loop-k.k = omega (arith, c.loop-k-test.false, c.len-k-end.ensures) in
    c.loop-k.invariant
    ∙ ap (λ (l : List ℕ). c.args.bytes.items ++ l)
    (ap (λ (os : List (Option Values)). flat_map row os) (take_all c.loop-k.k slots past) ∙ slots_are name slots ∙ ap (λ (ns : List Values). flat_map name ns) c.item_slots-slots.ensures.names)
