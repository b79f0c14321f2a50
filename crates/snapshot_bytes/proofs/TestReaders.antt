-- Lemmas: the readers of tests, by levels of logical tests.
use Rattle.std.proofs.Common.{◌≡◌, refl, sym, ◌∙◌, ap, subst, ℕ, zero, suc, Bool, true, false, List, [], ◌∷◌, ◌++◌, length, map, Option, Some, None, slice_get}
use Rattle.std.specs.List.{flat_map}
use Rattle.std.proofs.lemmas.List.{length-map}
use Rattle.std.proofs.lemmas.List.Folds.{flat_map-map}
use Rattle.cpe_rows.specs.cpe_name.Eleven.{Values}
use Rattle.cpe_rows.specs.declared.test.CheckKey.{CheckKey}
use Rattle.cpe_rows.specs.declared.test.Operator.{Operator}
use Rattle.cpe_rows.specs.declared.test.Operator.TheVariants.{And, Or}
use Rattle.cpe_rows.specs.declared.test.Test.{Test, Fact, Check, out-Test}
use Rattle.cpe_rows.specs.declared.test.Test.TheOpen.{Test-F}
use Rattle.cpe_rows.specs.declared.test.Test.TheViews.{roll-Test, out-roll-Test, roll-out-Test}
use Rattle.cpe_rows.specs.declared.test.Test.TheVariants.{rolls-Logic, rolls-Fact, rolls-Check}
use Rattle.cpe_rows.specs.declared.test.Test.TheFolds.{fold-roll-Test}
use Rattle.snapshot_bytes.specs.Parts.{number, name, list}
use Rattle.snapshot_bytes.specs.Snapshot.{operator_byte, flag_byte, key_part, test_bytes_step, test_part}
use Rattle.snapshot_bytes.specs.StoredRows.{IsSpelled, IsCountedList, IsStoredKey, IsStoredStep, IsStoredTest}
use Rattle.snapshot_bytes.specs.Reading.{read_both, made, read_as, byte_at, name_at, key_at, list_at, operators, flags, logic_from, logic_at, test_of, node_at, logic_within, test_at}
use Rattle.snapshot_bytes.proofs.Readers.{IsBytes, IsTaken, IsReader, bind_some, some_is, both_read}
use Rattle.snapshot_bytes.proofs.PartReaders.{IsAny, IsBytes-rest, name_read, list_read}
use Rattle.snapshot_bytes.proofs.RowReaders.{tag_read, key_read}

-- ---- one byte for each kind

operator_again : (k : Operator) → slice_get operators (operator_byte k) ≡ Some k
operator_again And = refl
operator_again Or = refl

flag_again : (k : Bool) → slice_get flags (flag_byte k) ≡ Some k
flag_again false = refl
flag_again true = refl

-- ---- a value made of a part, as one of several cases

module _ {A B : Type 0} (Fits : A → Type 0) (spell : A → List ℕ) (read : List ℕ → Option (A × List ℕ)) (is : IsReader Fits spell read) (make : A → B) where
  made_takes : (bytes : List ℕ) (y : B) (rest : List ℕ) → IsBytes bytes → made make read bytes ≡ Some (y, rest) → (x : A) × (make x ≡ y) × IsTaken Fits spell bytes x rest
  made_takes bytes y rest are e =
      let a = bind_some (read bytes) (λ x. Some (make x.0, x.1)) (y, rest) e in
      let x = is.takes bytes a.0.0 a.0.1 are a.1 in
      let same = some_is (make a.0.0, a.0.1) (y, rest) a.2 in
      (a.0.0, ap (λ (q : B × List ℕ). q.0) same, subst (λ r. IsTaken Fits spell bytes a.0.0 r) (ap (λ (q : B × List ℕ). q.1) same) x)

  made_again : (x : A) (rest : List ℕ) → Fits x → made make read (spell x ++ rest) ≡ Some (make x, rest)
  made_again x rest fits = rw (is.again x rest fits) refl

-- ---- tests, by their parts

out_logic : (p : Operator × (Bool × List Test)) → out-Test (logic_from p) ≡ Test-F.Logic p.0 p.1.0 p.1.1
out_logic p = ap out-Test (sym (rolls-Logic p.0 p.1.0 p.1.1)) ∙ out-roll-Test (Test-F.Logic p.0 p.1.0 p.1.1)

out_fact : (n : Values) → out-Test (Fact n) ≡ Test-F.Fact n
out_fact n = ap out-Test (sym (rolls-Fact n)) ∙ out-roll-Test (Test-F.Fact n)

out_check : (k : CheckKey) → out-Test (Check k) ≡ Test-F.Check k
out_check k = ap out-Test (sym (rolls-Check k)) ∙ out-roll-Test (Test-F.Check k)

abbrev spell_logic : Operator × (Bool × List Test) → List ℕ
spell_logic p = operator_byte p.0 ∷ (flag_byte p.1.0 ∷ list test_part p.1.1)

pub part_logic : (p : Operator × (Bool × List Test)) → test_part (logic_from p) ≡ 0 ∷ spell_logic p
part_logic p =
    ap test_part (sym (rolls-Logic p.0 p.1.0 p.1.1)) ∙ fold-roll-Test (List ℕ) test_bytes_step (Test-F.Logic p.0 p.1.0 p.1.1)
    ∙ ap (λ (t : List ℕ). 0 ∷ operator_byte p.0 ∷ flag_byte p.1.0 ∷ t)
    (ap (λ n. number n ++ flat_map (λ (child : List ℕ). child) (map test_part p.1.1)) (length-map p.1.1 test_part)
    ∙ ap (λ (t : List ℕ). number (length p.1.1) ++ t) (flat_map-map (λ (child : List ℕ). child) test_part p.1.1))

pub part_fact : (n : Values) → test_part (Fact n) ≡ 1 ∷ name n
part_fact n = ap test_part (sym (rolls-Fact n)) ∙ fold-roll-Test (List ℕ) test_bytes_step (Test-F.Fact n)

pub part_check : (k : CheckKey) → test_part (Check k) ≡ 2 ∷ key_part k
part_check k = ap test_part (sym (rolls-Check k)) ∙ fold-roll-Test (List ℕ) test_bytes_step (Test-F.Check k)

-- ---- one level

pub record IsLogicReader (AreChildren : List Test → Type 0) (logic : List ℕ → Option (Test × List ℕ)) : Type 0 where
  pub takes : (bytes : List ℕ) (t : Test) (rest : List ℕ) → IsBytes bytes → logic bytes ≡ Some (t, rest)
      → (p : Operator × (Bool × List Test)) × (logic_from p ≡ t) × IsTaken (λ (q : Operator × (Bool × List Test)). AreChildren q.1.1) spell_logic bytes p rest
  pub again : (p : Operator × (Bool × List Test)) (rest : List ℕ) → AreChildren p.1.1 → logic (spell_logic p ++ rest) ≡ Some (logic_from p, rest)

module _ (AreChildren : List Test → Type 0) (logic : List ℕ → Option (Test × List ℕ)) (is : IsLogicReader AreChildren logic) where
  abbrev FitStep : Test → Type 0
  FitStep t = IsStoredStep AreChildren (out-Test t)

  -- a test of this form is read
  taken : (b : ℕ) (bytes : List ℕ) (t : Test) (rest : List ℕ) (y : Test-F Test) (part : List ℕ) → out-Test t ≡ y → test_part t ≡ b ∷ part → IsStoredStep AreChildren y
      → bytes ≡ part ++ rest → IsBytes rest → IsTaken FitStep test_part (b ∷ bytes) t rest
  taken b bytes t rest y part out spelled fits parts are = record {
    fits = subst (IsStoredStep AreChildren) (sym out) fits;
    parts = ap (λ (s : List ℕ). b ∷ s) parts ∙ ap (λ (s : List ℕ). s ++ rest) (sym spelled);
    are_bytes = are;
  }

  by_byte : (b : ℕ) (bytes : List ℕ) (t : Test) (rest : List ℕ) → IsBytes bytes → test_of logic b bytes ≡ Some (t, rest) → IsTaken FitStep test_part (b ∷ bytes) t rest
  by_byte zero bytes t rest are e =
      let l = is.takes bytes t rest are e in
      subst (λ u. IsTaken FitStep test_part (0 ∷ bytes) u rest) l.1
      (taken 0 bytes (logic_from l.0) rest (Test-F.Logic l.0.0 l.0.1.0 l.0.1.1) (spell_logic l.0) (out_logic l.0) (part_logic l.0) l.2.fits l.2.parts l.2.are_bytes)
  by_byte (suc zero) bytes t rest are e =
      let l = made_takes IsSpelled name name_at name_read Fact bytes t rest are e in
      subst (λ u. IsTaken FitStep test_part (1 ∷ bytes) u rest) l.1
      (taken 1 bytes (Fact l.0) rest (Test-F.Fact l.0) (name l.0) (out_fact l.0) (part_fact l.0) l.2.fits l.2.parts l.2.are_bytes)
  by_byte (suc (suc zero)) bytes t rest are e =
      let l = made_takes IsStoredKey key_part key_at key_read Check bytes t rest are e in
      subst (λ u. IsTaken FitStep test_part (2 ∷ bytes) u rest) l.1
      (taken 2 bytes (Check l.0) rest (Test-F.Check l.0) (key_part l.0) (out_check l.0) (part_check l.0) l.2.fits l.2.parts l.2.are_bytes)
  by_byte (suc (suc (suc b))) bytes t rest are e = absurd cc

  node_taken : (bytes : List ℕ) (t : Test) (rest : List ℕ) → IsBytes bytes → node_at logic bytes ≡ Some (t, rest) → IsTaken FitStep test_part bytes t rest
  node_taken [] t rest are e = absurd cc
  node_taken (b ∷ bytes) t rest are e = by_byte b bytes t rest (IsBytes-rest b bytes are) e

  by_step : (y : Test-F Test) (t : Test) (rest : List ℕ) → roll-Test y ≡ t → IsStoredStep AreChildren y → node_at logic (test_part t ++ rest) ≡ Some (t, rest)
  by_step (Test-F.Logic operator negate of) t rest same fits =
      let p : Operator × (Bool × List Test) = (operator, (negate, of)) in
      let whole : logic_from p ≡ t = sym (rolls-Logic operator negate of) ∙ same in
      subst (λ u. node_at logic (test_part u ++ rest) ≡ Some (u, rest)) whole
      (ap (λ (s : List ℕ). node_at logic (s ++ rest)) (part_logic p) ∙ is.again p rest fits)
  by_step (Test-F.Fact n) t rest same fits =
      subst (λ u. node_at logic (test_part u ++ rest) ≡ Some (u, rest)) (sym (rolls-Fact n) ∙ same)
      (ap (λ (s : List ℕ). node_at logic (s ++ rest)) (part_fact n) ∙ made_again IsSpelled name name_at name_read Fact n rest fits)
  by_step (Test-F.Check k) t rest same fits =
      subst (λ u. node_at logic (test_part u ++ rest) ≡ Some (u, rest)) (sym (rolls-Check k) ∙ same)
      (ap (λ (s : List ℕ). node_at logic (s ++ rest)) (part_check k) ∙ made_again IsStoredKey key_part key_at key_read Check k rest fits)

  node_again : (t : Test) (rest : List ℕ) → FitStep t → node_at logic (test_part t ++ rest) ≡ Some (t, rest)
  node_again t rest fits = by_step (out-Test t) t rest (roll-out-Test t) fits

  pub node_read : IsReader FitStep test_part (node_at logic)
  node_read = record { takes = node_taken; again = node_again }

-- ---- all levels

none_read : IsLogicReader (λ of. ⊥) (logic_within 0)
unfolding logic_within
none_read = record { takes = λ bytes t rest are e. absurd (none_is (t, rest) e); again = λ p rest fits. absurd fits } where
  none_is : (x : Test × List ℕ) → ◌≡◌ {A = Option (Test × List ℕ)} None (Some x) → ⊥
  none_is x e = cc

module _ (Fits : Test → Type 0) (child : List ℕ → Option (Test × List ℕ)) (is : IsReader Fits test_part child) where
  abbrev FitJoined : Operator × (Bool × List Test) → Type 0
  FitJoined p = IsAny p.0 × (IsAny p.1.0 × IsCountedList Fits p.1.1)

  joined_read : IsReader FitJoined spell_logic (read_both (read_as (slice_get operators) byte_at) (read_both (read_as (slice_get flags) byte_at) (list_at child)))
  joined_read =
      both_read _ _ _ _ _ _ (tag_read operators operator_byte (refl, (refl, tt)) operator_again)
      (both_read _ _ _ _ _ _ (tag_read flags flag_byte (refl, (refl, tt)) flag_again) (list_read Fits test_part child is))

  pub logic_read : IsLogicReader (IsCountedList Fits) (logic_at child)
  unfolding logic_at
  logic_read = record {
    takes = λ bytes t rest are e. (let m = made_takes FitJoined spell_logic _ joined_read logic_from bytes t rest are e in
        (m.0, m.1, record { fits = m.2.fits.1.1; parts = m.2.parts; are_bytes = m.2.are_bytes }));
    again = λ p rest fits. made_again FitJoined spell_logic _ joined_read logic_from p rest (tt, (tt, fits));
  }

pub within_read : (levels : ℕ) → IsReader (IsStoredTest levels) test_part (node_at (logic_within levels))
unfolding logic_within
within_read zero = node_read (λ of. ⊥) (logic_within 0) none_read
within_read (suc levels) = node_read (IsCountedList (IsStoredTest levels)) (logic_within (suc levels)) (logic_read (IsStoredTest levels) (node_at (logic_within levels)) (within_read levels))

pub test_read : (levels : ℕ) → IsReader (IsStoredTest levels) test_part (test_at levels)
unfolding test_at
test_read levels = within_read levels
