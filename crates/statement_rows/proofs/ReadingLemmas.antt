-- The truth of a test by the truths of its fact references.
use Rattle.std.proofs.Common.{◌≡◌, Bool, List, [], ◌∷◌, ◌++◌, refl, sym, ap, ◌∙◌}
use Rattle.std.proofs.Common.{ℕ, ◌+◌, ◌<◌, length, map, take, get_or}
use Rattle.std.proofs.lemmas.List.{map_more}
use Rattle.std.proofs.lemmas.List.Folds.{flat_map-map}
use Rattle.cpe_rows.specs.Evaluation.{joined, negated}
use Rattle.cpe_rows.proofs.Joined.{joined-snoc}
use Rattle.cpe_rows.specs.declared.truth.Truth.{Truth}
use Rattle.cpe_rows.specs.declared.test.CheckKey.{CheckKey}
use Rattle.cpe_rows.specs.declared.test.Operator.{Operator}
use Rattle.cpe_rows.specs.declared.test.Test.{Test, Logic}
use Rattle.cpe_rows.specs.declared.test.Test.TheFolds.{fold-roll-Test}
use Rattle.cpe_rows.specs.declared.test.Test.TheVariants.{rolls-Logic}
use Rattle.cpe_rows.specs.declared.test.Test.TheOpen.{Test-F}
use Rattle.std.specs.List.{flat_map}
use Rattle.statement_rows.specs.Readings.{TruthReading, check_keys, asked_keys_step, reading, reading_step, truths_along}

-- one child more
pub along-snoc : (rs : List TruthReading) (r : TruthReading) (ts : List Truth)
    → truths_along (rs ++ r ∷ []) ts ≡ ((truths_along rs ts).0 ++ (r (truths_along rs ts).1).0 ∷ [], (r (truths_along rs ts).1).1)
along-snoc [] r ts = refl
along-snoc (q ∷ rs) r ts = λ i. ((q ts).0 ∷ (along-snoc rs r (q ts).1 i).0, (along-snoc rs r (q ts).1 i).1)

pub keys-logic : (operator : Operator) (negate : Bool) (of : List Test)
    → check_keys (Logic operator negate of) ≡ flat_map check_keys of
keys-logic operator negate of =
    ap check_keys (sym (rolls-Logic operator negate of))
    ∙ (fold-roll-Test (List CheckKey) asked_keys_step (Test-F.Logic operator negate of) ∙ flat_map-map (λ keys. keys) check_keys of)

pub reading-logic : (check : CheckKey → Truth) (operator : Operator) (negate : Bool) (of : List Test) (ts : List Truth)
    → reading check (Logic operator negate of) ts
    ≡ (negated negate (joined operator (truths_along (map (reading check) of) ts).0), (truths_along (map (reading check) of) ts).1)
reading-logic check operator negate of ts =
    ap (λ (t : Test). reading check t ts) (sym (rolls-Logic operator negate of))
    ∙ ap (λ (r : TruthReading). r ts) (fold-roll-Test TruthReading (reading_step check) (Test-F.Logic operator negate of))

module _ (check : CheckKey → Truth) (operator : Operator) (items : List Test) (i : ℕ) (child : Test) (lt : i < length items) (is : child ≡ get_or items i child) (ts : List Truth) where
  abbrev before : List Truth × List Truth
  before = truths_along (map (reading check) (take i items)) ts

  abbrev behind : List Truth × List Truth
  behind = truths_along (map (reading check) (take (i + 1) items)) ts

  one_more : behind ≡ (before.0 ++ (reading check child before.1).0 ∷ [], (reading check child before.1).1)
  one_more =
      ap (λ (rs : List TruthReading). truths_along rs ts) (map_more (reading check) items i child lt)
      ∙ (along-snoc (map (reading check) (take i items)) (reading check (get_or items i child)) ts
      ∙ ap (λ (t : Test). (before.0 ++ (reading check t before.1).0 ∷ [], (reading check t before.1).1)) (sym is))

  pub truth_step : (now next new : Truth) (rest : List Truth) → now ≡ joined operator before.0 → rest ≡ before.1 → next ≡ (reading check child rest).0
      → new ≡ joined operator (now ∷ (next ∷ [])) → new ≡ joined operator behind.0
  truth_step now next new rest h r n e =
      e ∙ ((λ j. joined operator (h j ∷ ((n ∙ ap (λ (u : List Truth). (reading check child u).0) r) j ∷ [])))
      ∙ (sym (joined-snoc operator before.0 (reading check child before.1).0) ∙ ap (λ (b : List Truth × List Truth). joined operator b.0) (sym one_more)))

  pub rest_step : (rest after : List Truth) → rest ≡ before.1 → after ≡ (reading check child rest).1 → after ≡ behind.1
  rest_step rest after r e = e ∙ (ap (λ (u : List Truth). (reading check child u).1) r ∙ ap (λ (b : List Truth × List Truth). b.1) (sym one_more))
