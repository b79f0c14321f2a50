-- Lemmas about the first cause of an edit, and the result of an edit that has a cause.
use Rattle.std.proofs.Common.{◌≡◌, List, [], ◌∷◌, ◌++◌, refl, ap}
use Rattle.std.specs.Prelude.{Option, Some, None}
use Rattle.cpe_rows.specs.Rows.{Rows}
use Rattle.cpe_rows.specs.Step.{first_some, unless}
use Rattle.cpe_rows.specs.declared.fault.EditFault.{EditFault}
use Rattle.cpe_rows.specs.declared.fault.EditFault.TheVariants as fault
use Rattle.cpe_rows.specs.Applied.{RefusesEdit}
use Rattle.cpe_rows.specs.Causes.{IsCause}

pub first_behind : (xs ys : List (Option EditFault)) → first_some xs ≡ None → first_some (xs ++ ys) ≡ first_some ys
first_behind [] ys h = refl
first_behind (Some f ∷ xs) ys h = let wrong : ⊥ = cc in absurd wrong
first_behind (None ∷ xs) ys h = first_behind xs ys h

pub first_before : (f : EditFault) (xs ys : List (Option EditFault)) → first_some xs ≡ Some f → first_some (xs ++ ys) ≡ Some f
first_before f [] ys h = let wrong : ⊥ = cc in absurd wrong
first_before f (Some g ∷ xs) ys h = h
first_before f (None ∷ xs) ys h = first_before f xs ys h

pub first_same : (os xs ys : List (Option EditFault)) → first_some xs ≡ first_some ys → first_some (os ++ xs) ≡ first_some (os ++ ys)
first_same [] xs ys h = h
first_same (Some f ∷ os) xs ys h = refl
first_same (None ∷ os) xs ys h = first_same os xs ys h

-- A fault that was found is a cause.
pub is_cause : (f : EditFault) (o : Option EditFault) → o ≡ Some f → IsCause f o
is_cause fault.NotIdentifier o h = h
is_cause fault.Wildcards o h = h
is_cause fault.Exists o h = h
is_cause fault.Unknown o h = h
is_cause fault.AlreadyDeprecated o h = h
is_cause fault.NotDeprecated o h = h
is_cause fault.BadCount o h = h
is_cause (fault.UnknownSuccessor k) o h = h
is_cause (fault.RepeatedSuccessor k) o h = h
is_cause (fault.Cycle k) o h = h
is_cause (fault.TooWide n) o h = h
is_cause (fault.Full w) o h = h
is_cause fault.Memory o h = tt

pub cause_moves : (f : EditFault) (o p : Option EditFault) → (o ≡ Some f → p ≡ Some f) → IsCause f o → IsCause f p
cause_moves fault.NotIdentifier o p move h = move h
cause_moves fault.Wildcards o p move h = move h
cause_moves fault.Exists o p move h = move h
cause_moves fault.Unknown o p move h = move h
cause_moves fault.AlreadyDeprecated o p move h = move h
cause_moves fault.NotDeprecated o p move h = move h
cause_moves fault.BadCount o p move h = move h
cause_moves (fault.UnknownSuccessor k) o p move h = move h
cause_moves (fault.RepeatedSuccessor k) o p move h = move h
cause_moves (fault.Cycle k) o p move h = move h
cause_moves (fault.TooWide n) o p move h = move h
cause_moves (fault.Full w) o p move h = move h
cause_moves fault.Memory o p move h = tt

pub cause_refuses : (f : EditFault) (o : Option EditFault) (rows : Rows) → IsCause f o → RefusesEdit f (unless o rows)
cause_refuses fault.NotIdentifier o rows h = ap (λ c. unless c rows) h
cause_refuses fault.Wildcards o rows h = ap (λ c. unless c rows) h
cause_refuses fault.Exists o rows h = ap (λ c. unless c rows) h
cause_refuses fault.Unknown o rows h = ap (λ c. unless c rows) h
cause_refuses fault.AlreadyDeprecated o rows h = ap (λ c. unless c rows) h
cause_refuses fault.NotDeprecated o rows h = ap (λ c. unless c rows) h
cause_refuses fault.BadCount o rows h = ap (λ c. unless c rows) h
cause_refuses (fault.UnknownSuccessor k) o rows h = ap (λ c. unless c rows) h
cause_refuses (fault.RepeatedSuccessor k) o rows h = ap (λ c. unless c rows) h
cause_refuses (fault.Cycle k) o rows h = ap (λ c. unless c rows) h
cause_refuses (fault.TooWide n) o rows h = ap (λ c. unless c rows) h
cause_refuses (fault.Full w) o rows h = ap (λ c. unless c rows) h
cause_refuses fault.Memory o rows h = tt
