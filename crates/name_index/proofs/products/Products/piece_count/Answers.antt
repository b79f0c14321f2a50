use Rattle.std.proofs.Common.{◌+◌, length, sym, ◌∙◌, eqb-true}
use Rattle.std.proofs.lemmas.List.{nil_from_length}
use Rattle.name_index.specs.Listed.{live}
use Rattle.name_index.proofs.NearRuns.{no_runs}
use Rattle.name_index.proofs.products.Products.piece_count.Goals as goal

pub returns-then-is_empty-clause-enough : goal.returns-then-is_empty-clause-enough
returns-then-is_empty-clause-enough c piece f =
    no_runs c.args.self.now (live c.args.self.now) c.args.shape c.front_run.result c.front_run.ensures (nil_from_length _ (eqb-true _ 0 (sym c.is_empty.ensures ∙ c.if-is_empty.true))) piece (length c.args.text.now + 1) f
