-- Lemmas: a test is as deep as the draft from which it is read, and it is sound if the draft is formed.
use Rattle.std.proofs.Common.{◌≡◌, ℕ, ◌+◌, suc, List, [], ◌∷◌, Bool, true, ◌&&◌, map, length, nat_lt, refl, ap, sym, ◌∙◌, subst}
use Rattle.std.specs.Prelude.{Result, Ok, Err}
use Rattle.std.specs.List.{list_all}
use Rattle.std.proofs.lemmas.Bool.{and_parts, and_from}
use Rattle.cpe_rows.specs.cpe_name.Eleven.{Values}
use Rattle.cpe_rows.specs.Names.{is_lower}
use Rattle.cpe_rows.specs.Shape.{largest, depth_of, depth_step as test_depth_step, is_sound, sound_step}
use Rattle.cpe_rows.specs.declared.test.Operator.{Operator}
use Rattle.cpe_rows.specs.declared.test.CheckKey.{CheckKey}
use Rattle.cpe_rows.specs.declared.test.Test as test
use Rattle.cpe_rows.specs.declared.test.Test.TheOpen.{Test-F}
use Rattle.cpe_rows.specs.declared.test.Test.TheFolds.{fold-roll-Test}
use Rattle.cpe_rows.specs.declared.test.Test.TheVariants as test_rolls
use Rattle.cpe_rows.proofs.Within.{depth-logic}
use Rattle.cpe_records.proofs.DraftDepth.{draft_depth-logic}
use Rattle.cpe_records.specs.Gives.{◌>>=◌}
use Rattle.cpe_records.specs.Names.{at_spot}
use Rattle.cpe_records.specs.declared.member.NotName.{NotName}
use Rattle.cpe_records.specs.Tests.{draft_depth, draft_depth_step, in_turn, name_step, names_from}
use Rattle.cpe_records.specs.declared.member.NameSpot.TheVariants as spot
use Rattle.cpe_records.specs.declared.member.RecordFault.{RecordFault}
use Rattle.cpe_records.specs.declared.draft.Draft.{Draft, Logic, Fact, Check}
use Rattle.cpe_records.specs.declared.draft.Draft.TheOpen.{Draft-F}
use Rattle.cpe_records.specs.declared.draft.Draft.TheViews.{roll-Draft}
use Rattle.cpe_records.specs.declared.draft.Draft.TheVariants.{rolls-Logic, rolls-Fact, rolls-Check}
use Rattle.cpe_records.specs.declared.draft.Draft.TheFolds.{fold-Draft, fold-roll-Draft, ind-Draft, map-Draft}
use Rattle.cpe_records.proofs.InTurn.{names_from-logic}
use Rattle.cpe_records.specs.FirstFault.{Yields}
use Rattle.cpe_records.proofs.LowerNames.{is_lowered, at_spot_lower}

abbrev pub Each : {A : Type 0} → (A → Type 0) → Result A RecordFault → Type 0
Each P (Ok x) = P x
Each P (Err e) = Unit {0}

abbrev pub formed_step : Draft-F Bool → Bool
formed_step (Draft-F.Logic operator negate of) = nat_lt 0 (length of) && list_all (λ b. b) of
formed_step (Draft-F.Fact name) = is_lowered name
formed_step (Draft-F.Check key) = true

-- whether each logical test has a child, and all names are in lower case
abbrev pub formed : Draft → Bool
formed = fold-Draft Bool formed_step

abbrev pub Agrees : Draft → test.Test × ℕ → Type 0
Agrees d r = (formed d ≡ true → is_sound r.0 ≡ true) × (depth_of r.0 ≡ draft_depth d)

abbrev pub ReadAs : Draft → Type 0
ReadAs d = (n : ℕ) → Each (Agrees d) (names_from d n)

abbrev AllAgree : List Draft → List test.Test → Type 0
AllAgree ds ts = (list_all (λ b. b) (map formed ds) ≡ true → list_all (λ b. b) (map is_sound ts) ≡ true) × (map depth_of ts ≡ map draft_depth ds) × (length (map is_sound ts) ≡ length (map formed ds))

abbrev AllRead : List Draft → List test.Test × ℕ → Type 0
AllRead ds r = AllAgree ds r.0

second : (d : Draft) (ds : List Draft) (x : test.Test × ℕ) → Agrees d x → (r : Result (List test.Test × ℕ) RecordFault) → Each (AllRead ds) r
    → Each (AllRead (d ∷ ds)) (r >>= λ xs. Ok (x.0 ∷ xs.0, xs.1))
second d ds x h (Err e) k = tt
second d ds x h (Ok xs) k =
    (λ f. let p = and_parts (formed d) (list_all (λ b. b) (map formed ds)) f in and_from _ _ (h.0 p.0) (k.0 p.1), λ i. h.1 i ∷ k.1 i, ap suc k.2)

first : (d : Draft) (ds : List Draft) (r : Result (test.Test × ℕ) RecordFault) → Each (Agrees d) r → ((m : ℕ) → Each (AllRead ds) (in_turn (map names_from ds) m))
    → Each (AllRead (d ∷ ds)) (r >>= λ x. in_turn (map names_from ds) x.1 >>= λ xs. Ok (x.0 ∷ xs.0, xs.1))
first d ds (Err e) h k = tt
first d ds (Ok x) h k = second d ds x h (in_turn (map names_from ds) x.1) (k x.1)

abbrev pub Shown : Type 0
Shown = (d : Draft) × ReadAs d

turns : (es : List Shown) (n : ℕ) → Each (AllRead (map (λ e. e.0) es)) (in_turn (map names_from (map (λ e. e.0) es)) n)
turns [] n = (λ h. refl, refl, refl)
turns (e ∷ es) n = first e.0 (map (λ e. e.0) es) (names_from e.0 n) (e.1 n) (turns es)

sound-logic : (o : Operator) (b : Bool) (ts : List test.Test) → is_sound (test.Logic o b ts) ≡ (nat_lt 0 (length (map is_sound ts)) && list_all (λ c. c) (map is_sound ts))
sound-logic o b ts = ap is_sound (sym (test_rolls.rolls-Logic o b ts)) ∙ fold-roll-Test Bool sound_step (Test-F.Logic o b ts)

pub formed-logic : (o : Operator) (b : Bool) (ds : List Draft) → formed (Logic o b ds) ≡ (nat_lt 0 (length (map formed ds)) && list_all (λ c. c) (map formed ds))
formed-logic o b ds = ap formed (sym (rolls-Logic o b ds)) ∙ fold-roll-Draft Bool formed_step (Draft-F.Logic o b ds)

logic_agrees : (o : Operator) (b : Bool) (ds : List Draft) (r : Result (List test.Test × ℕ) RecordFault) → Each (AllRead ds) r → Each (Agrees (Logic o b ds)) (r >>= λ x. Ok (test.Logic o b x.0, x.1))
logic_agrees o b ds (Err e) h = tt
logic_agrees o b ds (Ok x) h = (
  λ f. let p = and_parts (nat_lt 0 (length (map formed ds))) (list_all (λ c. c) (map formed ds)) (sym (formed-logic o b ds) ∙ f) in sound-logic o b x.0 ∙ and_from _ _ (ap (nat_lt 0) h.2 ∙ p.0) (h.0 p.1),
  depth-logic o b x.0 ∙ (ap (λ ns. suc (largest ns)) h.1 ∙ sym (draft_depth-logic o b ds)),
)

logic_read : (o : Operator) (b : Bool) (es : List Shown) → ReadAs (Logic o b (map (λ e. e.0) es))
logic_read o b es n =
    let ds : List Draft = map (λ e. e.0) es in
    subst (Each (Agrees (Logic o b ds))) (sym (names_from-logic o b ds n)) (logic_agrees o b ds (in_turn (map names_from ds) n) (turns es n))

abbrev Namer : Type 0
Namer = ℕ → Result (test.Test × ℕ) RecordFault

names_from-fact : (name : Result Values NotName) (n : ℕ) → names_from (Fact name) n ≡ (at_spot (spot.Fact n) name >>= λ w. Ok (test.Fact w, n + 1))
names_from-fact name n = ap (λ d. names_from d n) (sym (rolls-Fact name)) ∙ ap (λ (f : Namer). f n) (fold-roll-Draft Namer name_step (Draft-F.Fact name))

names_from-check : (key : CheckKey) (n : ℕ) → names_from (Check key) n ≡ Ok (test.Check key, n)
names_from-check key n = ap (λ d. names_from d n) (sym (rolls-Check key)) ∙ ap (λ (f : Namer). f n) (fold-roll-Draft Namer name_step (Draft-F.Check key))

pub formed-fact : (name : Result Values NotName) → formed (Fact name) ≡ is_lowered name
formed-fact name = ap formed (sym (rolls-Fact name)) ∙ fold-roll-Draft Bool formed_step (Draft-F.Fact name)

fact_agrees : (name : Result Values NotName) (n : ℕ) (r : Result Values RecordFault) → (is_lowered name ≡ true → Yields is_lower r) → Each (Agrees (Fact name)) (r >>= λ w. Ok (test.Fact w, n + 1))
fact_agrees name n (Err e) h = tt
fact_agrees name n (Ok w) h = (
  λ f. ap is_sound (sym (test_rolls.rolls-Fact w)) ∙ (fold-roll-Test Bool sound_step (Test-F.Fact w) ∙ h (sym (formed-fact name) ∙ f)),
  (ap depth_of (sym (test_rolls.rolls-Fact w)) ∙ fold-roll-Test ℕ test_depth_step (Test-F.Fact w))
      ∙ sym (ap draft_depth (sym (rolls-Fact name)) ∙ fold-roll-Draft ℕ draft_depth_step (Draft-F.Fact name)),
)

fact_read : (name : Result Values NotName) → ReadAs (Fact name)
fact_read name n = subst (Each (Agrees (Fact name))) (sym (names_from-fact name n)) (fact_agrees name n (at_spot (spot.Fact n) name) (at_spot_lower (spot.Fact n) name))

check_read : (key : CheckKey) → ReadAs (Check key)
check_read key n =
    subst (Each (Agrees (Check key))) (sym (names_from-check key n)) (
      λ f. ap is_sound (sym (test_rolls.rolls-Check key)) ∙ fold-roll-Test Bool sound_step (Test-F.Check key),
      (ap depth_of (sym (test_rolls.rolls-Check key)) ∙ fold-roll-Test ℕ test_depth_step (Test-F.Check key))
          ∙ sym (ap draft_depth (sym (rolls-Check key)) ∙ fold-roll-Draft ℕ draft_depth_step (Draft-F.Check key)),
    )

rolled : (y : Draft-F Shown) → ReadAs (roll-Draft (map-Draft Shown Draft (λ e. e.0) y))
rolled (Draft-F.Logic o b es) = subst ReadAs (sym (rolls-Logic o b (map (λ e. e.0) es))) (logic_read o b es)
rolled (Draft-F.Fact name) = subst ReadAs (sym (rolls-Fact name)) (fact_read name)
rolled (Draft-F.Check key) = subst ReadAs (sym (rolls-Check key)) (check_read key)

pub reads_as : (d : Draft) → ReadAs d
reads_as = ind-Draft ReadAs (λ x y is. subst (λ z. ReadAs (roll-Draft z)) is (rolled y))
