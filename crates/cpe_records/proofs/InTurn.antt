-- Lemmas about readers in a list; each begins with the count that the reader before it returned.
use Rattle.std.proofs.Common.{◌≡◌, ℕ, List, ◌++◌, Bool, map, ap, sym, ◌∙◌}
use Rattle.std.specs.Prelude.{Result, Ok}
use Rattle.cpe_records.specs.declared.member.RecordFault.{RecordFault}
use Rattle.cpe_records.specs.Gives.{◌>>=◌}
use Rattle.cpe_rows.specs.declared.test.Operator.{Operator}
use Rattle.cpe_rows.specs.declared.test.Test as test
use Rattle.cpe_records.specs.declared.draft.Draft.{Draft, Logic}
use Rattle.cpe_records.specs.declared.draft.Draft.TheOpen.{Draft-F}
use Rattle.cpe_records.specs.declared.draft.Draft.TheVariants.{rolls-Logic}
use Rattle.cpe_records.specs.declared.draft.Draft.TheFolds.{fold-roll-Draft}
use Rattle.cpe_records.specs.Tests.{in_turn, names_from, name_step}

-- the result of the remaining readers, after the results so far
abbrev pub turned : {X B : Type 0} → (X → ℕ → Result (B × ℕ) RecordFault) → List B → List X → ℕ → Result (List B × ℕ) RecordFault
turned {X} {B} f ys xs n = in_turn (map f xs) n >>= after where
  after : List B × ℕ → Result (List B × ℕ) RecordFault
  after z = Ok (ys ++ z.0, z.1)

pub names_from-logic : (operator : Operator) (negate : Bool) (of : List Draft) (n : ℕ) → names_from (Logic operator negate of) n ≡ (in_turn (map names_from of) n >>= λ r. Ok (test.Logic operator negate r.0, r.1))
names_from-logic operator negate of n =
    ap (λ d. names_from d n) (sym (rolls-Logic operator negate of))
    ∙ ap (λ (f : ℕ → Result (test.Test × ℕ) RecordFault). f n) (fold-roll-Draft (ℕ → Result (test.Test × ℕ) RecordFault) name_step (Draft-F.Logic operator negate of))
