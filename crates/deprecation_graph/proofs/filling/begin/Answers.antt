use Rattle.std.proofs.Common.{length, vec_len}
use Rattle.deprecation_graph.specs.declared.filling.Mark.TheVariants.{New}
use Rattle.deprecation_graph.proofs.StepLemmas.{begins, filled_up}
use Rattle.deprecation_graph.proofs.filling.begin.Goals as goal

pub returns-clause-filling : goal.returns-clause-filling
returns-clause-filling c =
    let n = length c.args.lists.now in
    begins c.args.lists.now c.in_ok-bare.ensures
    (filled_up n c.new-marks.result.items c.resize.new.self.items (vec_len c.new-marks.result) New c.new-marks.ensures.items c.new-marks.ensures.len
    c.in_ok-resize.ensures.items)
    (filled_up n c.new-seen.result.items c.resize-2.new.self.items (vec_len c.new-seen.result) 0 c.new-seen.ensures.items c.new-seen.ensures.len
    c.in_ok-resize-2.ensures.items)
    c.new.ensures.items
