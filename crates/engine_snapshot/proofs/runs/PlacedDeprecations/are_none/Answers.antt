use Rattle.std.proofs.Common.{◌≡◌, List, Option, ap, subst, sym, true, ◌∙◌}
use Rattle.std.specs.Prelude.{is_none, nat_eq}
use Rattle.std.specs.List.{list_all}
use Rattle.snapshot_bytes.specs.declared.rows.PlacedDeprecation.{PlacedDeprecation}
use Rattle.engine_snapshot.proofs.RunLemmas.{none_given}
use Rattle.engine_snapshot.proofs.runs.PlacedDeprecations.are_none.Goals as goal

pub returns : goal.returns
returns c =
    λ is. subst (λ (ds : List (Option PlacedDeprecation)). list_all is_none ds ≡ true) c.self.view_is
    (none_given c.self.inside.runs c.self.inside.active (ap (λ n. nat_eq n 0) (sym c.len.ensures) ∙ is))
