use Rattle.std.proofs.Common.{sym, ap, subst, ◌∙◌}
use Rattle.advise_ranges.specs.Groups.{ids_in_group}
use Rattle.advise_ranges.specs.Kept.{advisories_in, AreLower}
use Rattle.advise_ranges.proofs.KeptLemmas.{Pairs}
use Rattle.advise_ranges.proofs.advised.Advised.put.Goals as goal

pub invariant_of-self-in-Err : goal.invariant_of-self-in-Err
invariant_of-self-in-Err c = record {
  lower = subst AreLower (sym c.in-Err.ensures.entries) c.self.invariant.lower;
  grouped = λ v. c.in-Err.ensures.err v ∙ c.self.invariant.grouped v ∙ ap (λ (es : Pairs). ids_in_group v (advisories_in es)) (sym c.in-Err.ensures.entries);
}
