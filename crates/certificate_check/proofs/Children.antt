-- Lemmas: a logical test and the certificates of its children, one child after the other.
use Rattle.std.proofs.Common.{◌≡◌, ℕ, suc, ◌+◌, ◌<◌, ◌≤◌, List, [], ◌∷◌, Bool, true, false, ◌&&◌, Option, Some, None, map, drop, get_or, length, slice_get, refl, ap, sym, ◌∙◌, arith}
use Rattle.std.specs.Borrow.{Bor}
use Rattle.std.specs.Option.{option_copied, option_map_or}
use Rattle.std.proofs.lemmas.List.{drop_all}
use Rattle.std.proofs.lemmas.Option.{slice_get-get_or, slice_get_read}
use Rattle.cpe_rows.specs.Rows.{Rows}
use Rattle.cpe_rows.specs.declared.statement.Mode.{Mode}
use Rattle.cpe_rows.specs.declared.truth.Truth.{Truth}
use Rattle.cpe_rows.specs.declared.test.Operator.{Operator}
use Rattle.cpe_rows.specs.declared.test.Test.{Test}
use Rattle.cpe_rows.specs.declared.test.Test as test
use Rattle.cpe_rows.specs.declared.test.Test.TheOpen.{Test-F}
use Rattle.cpe_rows.specs.declared.test.Test.TheFolds.{fold-roll-Test}
use Rattle.cpe_rows.specs.declared.test.Test.TheVariants as tests
use Rattle.certificate_check.specs.Tested.{all_pass, is_settled, logic_passes, test_passes, test_passes_step}
use Rattle.certificate_check.specs.declared.certificate.Why.{Why, out-Why}
use Rattle.certificate_check.specs.declared.certificate.Why as why
use Rattle.certificate_check.specs.declared.certificate.Why.TheVariants as whys
use Rattle.certificate_check.proofs.Loops.{drop_at}

module _ (rows : Rows) (mode : Mode) where
  abbrev p : Test → Why → Bool
  p = test_passes rows mode

  logic_level : (operator : Operator) (negate : Bool) (of : List Test) (truth : Truth) (ws : List (Option Why))
      → p (test.Logic operator negate of) (why.Logic truth ws) ≡ (all_pass (map p of) ws && is_settled operator negate truth ws)
  logic_level operator negate of truth ws =
      ap (λ (f : Why → Bool). f (why.Logic truth ws)) (ap p (sym (tests.rolls-Logic operator negate of)) ∙ fold-roll-Test (Why
      → Bool) (test_passes_step rows mode) (Test-F.Logic operator negate of))
      ∙ ap (logic_passes (map p of) operator negate) (whys.outs-Logic truth ws)

  -- a certificate passes a logical test exactly if its children pass and its truth is settled
  pub at_logic : (t : Test) (given : Option (Bor Why)) (w : Bor Why) (operator : Operator) (negate : Bool) (of : List Test) (truth : Truth)
      (ws : List (Option Why))
      → t ≡ test.Logic operator negate of → given ≡ Some w → w.now ≡ why.Logic truth ws
      → option_map_or (p t) (option_copied given) true ≡ (all_pass (map p of) ws && is_settled operator negate truth ws)
  at_logic t given w operator negate of truth ws e f h =
      ap (λ (o : Option (Bor Why)). option_map_or (p t) (option_copied o) true) f
      ∙ ((λ i. p (e i) (h i)) ∙ logic_level operator negate of truth ws)

  -- the same for borrowed children, by the result of their tests
  pub at_children : (t : Test) (given : Option (Bor Why)) (w : Bor Why) (operator : Operator) (negate : Bool) (of children : List Test) (truth : Truth)
      (ws : List (Option Why)) (verdict : Bool)
      → t ≡ test.Logic operator negate of → given ≡ Some w → w.now ≡ why.Logic truth ws → children ≡ of → all_pass (map p children) ws ≡ verdict
      → (verdict && is_settled operator negate truth ws) ≡ option_map_or (p t) (option_copied given) true
  at_children t given w operator negate of children truth ws verdict e f h lent said =
      sym (at_logic t given w operator negate of truth ws e f h
      ∙ ap (λ b. b && is_settled operator negate truth ws) (ap (λ (ts : List Test). all_pass (map p ts) ws) (sym lent) ∙ said))

pub as_many : {children of : List Test} (ws : List (Option Why)) {m n : ℕ} → children ≡ of → m ≡ length of → m ≡ n → n ≡ length ws → length children ≡ length ws
as_many ws lent many same given = ap length lent ∙ (sym many ∙ (same ∙ given))

module _ (q : Test → Why → Bool) where
  pub not_as_many : (xs : List Test) (ws : List (Option Why)) → (length xs ≡ length ws → ⊥) → all_pass (map q xs) ws ≡ false
  not_as_many [] [] h = absurd (h refl)
  not_as_many [] (w ∷ ws) h = refl
  not_as_many (x ∷ xs) [] h = refl
  not_as_many (x ∷ xs) (w ∷ ws) h =
      ap (λ b. option_map_or (q x) w true && b) (not_as_many xs ws (λ e. h (ap suc e))) ∙ and_no (option_map_or (q x) w true) where
        and_no : (b : Bool) → (b && false) ≡ false
        and_no true = refl
        and_no false = refl

  -- one more step of the loop: the child at this place passes with the certificate at its place
  child_step : (xs : List Test) (ws given : List (Option Why)) (i k : ℕ) (x : Test) (o : Option Why) (passed verdict : Bool)
      → i < length xs → x ≡ get_or xs i x → k ≡ i → length xs ≡ length ws
      → given ≡ ws → o ≡ option_map_or (λ (w : Option Why). w) (slice_get given k) None → passed ≡ option_map_or (q x) o true → passed ≡ verdict
      → all_pass (map q (drop i xs)) (drop k ws) ≡ (verdict && all_pass (map q (drop (i + 1) xs)) (drop (k + 1) ws))
  child_step xs ws given i k x o passed verdict within is same many lent at said tested =
      let w = get_or ws k None in
      let there : slice_get given k ≡ Some w = ap (λ (vs : List (Option Why)). slice_get vs k) lent ∙ slice_get-get_or ws k None (omega arith) in
      let here : verdict ≡ option_map_or (q x) w true = sym tested ∙ (said
      ∙ ap (λ (v : Option Why). option_map_or (q x) v true) (at ∙ ap (λ (v : Option (Option Why)). option_map_or (λ (u : Option Why). u) v None) there)) in
      (λ j. all_pass (map q (drop_at xs i x (slice_get_read xs (length xs) i x refl within is) j)) (drop_at ws k w (slice_get-get_or ws k None (omega arith)) j))
      ∙ ap (λ b. b && all_pass (map q (drop (i + 1) xs)) (drop (k + 1) ws)) (sym here)

  -- the state of the loop: the children before this place pass
  module _ (xs : List Test) (ws : List (Option Why)) (i k : ℕ) (place : k ≡ i) (left : all_pass (map q (drop i xs)) (drop k ws) ≡ all_pass (map q xs) ws) (many : length xs ≡ length ws) where
    pub one_said : (given : List (Option Why)) (x : Test) (o : Option Why) (passed verdict : Bool) → i < length xs → x ≡ get_or xs i x
        → given ≡ ws → o ≡ option_map_or (λ (w : Option Why). w) (slice_get given k) None → passed ≡ option_map_or (q x) o true → passed ≡ verdict
        → all_pass (map q xs) ws ≡ (verdict && all_pass (map q (drop (i + 1) xs)) (drop (k + 1) ws))
    one_said given x o passed verdict within is lent at said tested = sym left ∙ child_step xs ws given i k x o passed verdict within is place many lent at said tested

    pub all_said : length xs ≤ i → all_pass (map q xs) ws ≡ true
    all_said past = sym left ∙ (λ j. all_pass (map q (drop_all i xs past j)) (drop_all k ws (let h : length ws ≤ k = omega (arith, place, many, past) in h) j))
