use Rattle.std.proofs.Common.{ℕ, List, ◌++◌, take, ap, ◌∙◌, arith}
use Rattle.cpe_fs.proofs.Written.{components_say}
use Rattle.cpe_fs.proofs.Said.{said}
use Rattle.cpe_fs.proofs.Writing.{refused_output, written_output}
use Rattle.cpe_fs.proofs.write_unbound.Goals as goal

pub returns-in-Ok : goal.returns-in-Ok
returns-in-Ok c =
    let are = c.in-Ok.ensures.found in
    written_output said c.args.text.now c.args.at _ c.args.room.now c.put_output.new.room c.put_output.result are.name are.fs
    (c.put_output.ensures.written ∙ ap (λ (u : List ℕ). take c.args.at c.args.room.now ++ u) (components_say c.args.text.now c.in-Ok.components are))
    (omega (arith, c.put_output.ensures.at, are.within)) c.put_output.ensures.room

pub returns-in-Err : goal.returns-in-Err
returns-in-Err c = refused_output said c.args.text.now c.args.at _ c.args.room.now _ c.in-Err.ensures.refused.at
