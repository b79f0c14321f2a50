use Rattle.std.proofs.Common.{List, length, ap, ◌∙◌, Result, Ok, Err}
use Rattle.std.specs.Result.{OnErr}
use Rattle.list_pool.specs.Pool.{Lists}
use Rattle.list_pool.specs.declared.ListName.{ListName}
use Rattle.name_index.specs.Index.{Held, pairs}
use Rattle.name_index.proofs.index.NameIndex.reserve.Goals as goal

on_err : {T E P : Type 0} (r : Result T E) → P → OnErr r P
on_err (Ok x) p = tt
on_err (Err e) p = p

abbrev view : Lists → List ListName → Held
view pool heads = record { held = pairs pool.lists heads; spare = pool.spare; wide = length heads }

pub returns-in_err-make_room-clause-err : goal.returns-in_err-make_room-clause-err
returns-in_err-make_room-clause-err c =
    on_err c.from_residual.result
    (ap (λ (pool : Lists). view pool c.make_room.new.heads.items) c.in_err-make_room.ensures.err ∙ ap (view c.self.inside.pool) c.in_err-make_room.ensures.heads ∙ c.self.view_is)
