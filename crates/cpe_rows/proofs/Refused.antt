-- Lemmas: the result of `step`, from the causes of its edit.
use Rattle.std.proofs.Common.{◌≡◌, List, [], ◌∷◌, Option, Some, None, Ok, ap, ◌∙◌}
use Rattle.cpe_rows.specs.Rows.{Rows}
use Rattle.cpe_rows.specs.Limits.{AreWithin}
use Rattle.cpe_rows.specs.After.{after}
use Rattle.cpe_rows.specs.Faults.{faults}
use Rattle.cpe_rows.specs.Step.{step, first_some, unless}
use Rattle.cpe_rows.specs.Applied.{RefusesEdit}
use Rattle.cpe_rows.specs.Causes.{causes, heavy, IsCause}
use Rattle.cpe_rows.specs.declared.edit.Edit.{Edit}
use Rattle.cpe_rows.specs.declared.fault.EditFault.{EditFault}
use Rattle.cpe_rows.proofs.CauseLemmas.{first_behind, first_before, cause_moves, cause_refuses}
use Rattle.cpe_rows.proofs.Raised.{are_causes}

pub refused_step : (rows : Rows) (e : Edit) (f : EditFault) → IsCause f (first_some (faults rows e)) → RefusesEdit f (step rows e)
refused_step rows e f h = cause_refuses f (first_some (faults rows e)) (after rows e) h

pub accepted_step : (rows : Rows) (e : Edit) → first_some (faults rows e) ≡ None → step rows e ≡ Ok (after rows e)
accepted_step rows e h = ap (λ o. unless o (after rows e)) h

module _ (rows : Rows) (e : Edit) (within : AreWithin rows) where
  abbrev last : List (Option EditFault)
  last = heavy (after rows e) ∷ []

  abbrev found : Option EditFault
  found = first_some (faults rows e)

  alone : (o : Option EditFault) → first_some (o ∷ []) ≡ o
  alone (Some f) = cc
  alone None = cc

  pub cause_refused : (f : EditFault) → IsCause f (first_some (causes rows e)) → RefusesEdit f (step rows e)
  cause_refused f h = refused_step rows e f (cause_moves f (first_some (causes rows e)) found
      (λ c. are_causes rows within e ∙ first_before f (causes rows e) last c) h)

  behind : first_some (causes rows e) ≡ None → found ≡ heavy (after rows e)
  behind none = are_causes rows within e ∙ (first_behind (causes rows e) last none ∙ alone (heavy (after rows e)))

  pub heavy_refused : (f : EditFault) → first_some (causes rows e) ≡ None → IsCause f (heavy (after rows e)) → RefusesEdit f (step rows e)
  heavy_refused f none h = refused_step rows e f (cause_moves f (heavy (after rows e)) found (λ c. behind none ∙ c) h)

  pub light_accepted : first_some (causes rows e) ≡ None → heavy (after rows e) ≡ None → step rows e ≡ Ok (after rows e)
  light_accepted none light = accepted_step rows e (behind none ∙ light)
