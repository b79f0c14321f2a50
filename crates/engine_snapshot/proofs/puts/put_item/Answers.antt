use Rattle.std.proofs.lemmas.Result.{IfErr-weaker}
use Rattle.engine_snapshot.proofs.Taken.{item_taken}
use Rattle.engine_snapshot.proofs.puts.put_item.Goals as goal

pub returns-clause-refused : goal.returns-clause-refused
returns-clause-refused g c = IfErr-weaker c.put.result _ _ (λ f none is more lawful. none is (item_taken c.args.engine.now c.args.name more lawful)) c.put.ensures.refused
