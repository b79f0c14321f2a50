use Rattle.std.proofs.Common.{◌∙◌, Bool, List, ap, sym, inr, get_or, false}
use Rattle.std.specs.List.{list_all}
use Rattle.deprecation_graph.proofs.check.are_few.Goals as goal

pub returns-else-next-le1 : goal.returns-else-next-le1
returns-else-next-le1 c = λ all. inr (ap (λ (marks : List Bool). list_all (λ x. get_or marks x false) c.args.next.now) (sym c.deref.ensures.value) ∙ sym c.are_active.ensures ∙ all)
