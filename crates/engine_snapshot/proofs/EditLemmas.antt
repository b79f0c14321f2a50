-- What follows from an edit that is made, and from an edit that is refused.
use Rattle.std.proofs.Common.{◌≡◌, true, List, ◌∷◌, Option, Some, None, refl, sym, ap, subst, ◌∙◌}
use Rattle.std.specs.Prelude.{IfErr, IsErrAnd, Result, Ok, Err}
use Rattle.std.proofs.lemmas.Result.{err_from_is_err_and}
use Rattle.cpe_rows.specs.After.{after}
use Rattle.cpe_rows.specs.Applied.{RefusesEdit}
use Rattle.cpe_rows.specs.Faults.{faults}
use Rattle.cpe_rows.specs.Rows.{Rows}
use Rattle.cpe_rows.specs.Step.{first_some, step, unless}
use Rattle.cpe_rows.specs.Valid.{is_valid_edit}
use Rattle.cpe_rows.specs.declared.edit.Edit.{Edit}
use Rattle.cpe_rows.specs.declared.fault.EditFault.{EditFault}
use Rattle.cpe_rows.specs.declared.fault.EditFault.TheVariants as fault
use Rattle.cpe_engine.specs.declared.adopting.AdoptFault.TheVariants.{Unlawful, Memory}
use Rattle.engine_snapshot.specs.Begun.{adopt_fault, IsLawfulEdit}

unrefused : (o : Option EditFault) (left next : Rows) → unless o left ≡ Ok next → next ≡ left
unrefused (Some f) left next e = absurd cc
unrefused None left next e = cc

pub applied_is : (rows next : Rows) (e : Edit) → step rows e ≡ Ok next → next ≡ after rows e
applied_is rows next e stepped = unrefused (first_some (faults rows e)) (after rows e) next stepped

-- an edit that is made is valid and has no fault
pub applied_taken : (rows next : Rows) (e : Edit) → is_valid_edit e ≡ true → step rows e ≡ Ok next → IsLawfulEdit rows e
applied_taken rows next e valid stepped = record { valid = valid; taken = stepped ∙ ap Ok (applied_is rows next e stepped) }

both_ways : (f : EditFault) (rows next : Rows) → ◌≡◌ {A = Result Rows EditFault} (Err f) (Ok next) → ⊥
both_ways f rows next e = cc

memory_is_none : Memory ≡ Unlawful → ⊥
memory_is_none e = cc

-- an edit with a fault isn't taken
pub refused_is : (f : EditFault) (rows : Rows) (e : Edit) → RefusesEdit f (step rows e) → adopt_fault f ≡ Unlawful → IsLawfulEdit rows e → ⊥
refused_is fault.NotIdentifier rows e refused is taken = both_ways fault.NotIdentifier rows (after rows e) (sym refused ∙ taken.taken)
refused_is fault.Wildcards rows e refused is taken = both_ways fault.Wildcards rows (after rows e) (sym refused ∙ taken.taken)
refused_is fault.Exists rows e refused is taken = both_ways fault.Exists rows (after rows e) (sym refused ∙ taken.taken)
refused_is fault.Unknown rows e refused is taken = both_ways fault.Unknown rows (after rows e) (sym refused ∙ taken.taken)
refused_is fault.AlreadyDeprecated rows e refused is taken = both_ways fault.AlreadyDeprecated rows (after rows e) (sym refused ∙ taken.taken)
refused_is fault.NotDeprecated rows e refused is taken = both_ways fault.NotDeprecated rows (after rows e) (sym refused ∙ taken.taken)
refused_is fault.BadCount rows e refused is taken = both_ways fault.BadCount rows (after rows e) (sym refused ∙ taken.taken)
refused_is (fault.UnknownSuccessor k) rows e refused is taken = both_ways (fault.UnknownSuccessor k) rows (after rows e) (sym refused ∙ taken.taken)
refused_is (fault.RepeatedSuccessor k) rows e refused is taken = both_ways (fault.RepeatedSuccessor k) rows (after rows e) (sym refused ∙ taken.taken)
refused_is (fault.Cycle k) rows e refused is taken = both_ways (fault.Cycle k) rows (after rows e) (sym refused ∙ taken.taken)
refused_is (fault.TooWide n) rows e refused is taken = both_ways (fault.TooWide n) rows (after rows e) (sym refused ∙ taken.taken)
refused_is (fault.Full w) rows e refused is taken = both_ways (fault.Full w) rows (after rows e) (sym refused ∙ taken.taken)
refused_is fault.Memory rows e refused is taken = memory_is_none is

-- each fault except the lack of memory says that the rows aren't lawful
pub unless_memory : (f : EditFault) → (f ≡ fault.Memory → ⊥) → Unlawful ≡ adopt_fault f
unless_memory fault.NotIdentifier other = refl
unless_memory fault.Wildcards other = refl
unless_memory fault.Exists other = refl
unless_memory fault.Unknown other = refl
unless_memory fault.AlreadyDeprecated other = refl
unless_memory fault.NotDeprecated other = refl
unless_memory fault.BadCount other = refl
unless_memory (fault.UnknownSuccessor k) other = refl
unless_memory (fault.RepeatedSuccessor k) other = refl
unless_memory (fault.Cycle k) other = refl
unless_memory (fault.TooWide n) other = refl
unless_memory (fault.Full w) other = refl
unless_memory fault.Memory other = absurd (other refl)

-- a refusal that is passed on
pub handed_on : {T E : Type 0} (r : Result T E) (e : E) (Q : E → Type 0) → IsErrAnd r (λ f. f ≡ e) → Q e → IfErr r Q
handed_on r e Q is q =
    let p = err_from_is_err_and r is in
    subst (λ s. IfErr s Q) (sym (p.1 ∙ ap Err p.2)) q

-- rows are added one after another; if the next row isn't taken, the rows with all further rows don't fit
pub not_taken : {A : Type 0} (put : Rows → List A → Rows) (Fits : Rows → Type 0) (rows : Rows) {target : Rows} {x : A} {all rest : List A} {Taken : Type 0}
    → put rows all ≡ target → all ≡ x ∷ rest → (Fits (put rows (x ∷ rest)) → Taken) → (Taken → ⊥) → Fits target → ⊥
not_taken put Fits rows so_far is taken none fit = none (taken (subst Fits (sym (ap (put rows) (sym is) ∙ so_far)) fit))
