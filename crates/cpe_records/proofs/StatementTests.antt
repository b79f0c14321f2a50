-- Lemmas: the test that is read from a record is one that a statement may have.
use Rattle.std.proofs.Common.{◌≡◌, ℕ, List, [], ◌∷◌, Bool, true, false, map, nat_le, if◌then◌else◌, codes, is_some, refl, ap, sym, ◌∙◌, subst}
use Rattle.std.specs.Prelude.{Result, Ok, Err}
use Rattle.std.proofs.lemmas.Bool.{and_from}
use Rattle.serde_json.specs.Data.{Data}
use Rattle.serde_json.specs.Find.{get}
use Rattle.cpe_rows.specs.declared.limits.TheConstants.{MOST_LEVELS}
use Rattle.cpe_rows.specs.Valid.{is_logic, is_statement_test}
use Rattle.cpe_rows.specs.declared.test.Operator.{Operator}
use Rattle.cpe_rows.specs.declared.test.Test as test
use Rattle.cpe_rows.specs.declared.test.Test.TheOpen.{Test-F}
use Rattle.cpe_rows.specs.declared.test.Test.TheViews.{out-roll-Test}
use Rattle.cpe_rows.specs.declared.test.Test.TheVariants as test_rolls
use Rattle.cpe_records.specs.Gives.{◌>>=◌}
use Rattle.cpe_records.specs.Forms.{required_member, member_at, flag_or_false}
use Rattle.cpe_records.specs.Tests.{operator_in, logic_in, leaf_read, draft_of, draft_depth, within_test_limit, in_turn, names_from, test_in, test_at}
use Rattle.cpe_records.specs.declared.format.Format.{Format}
use Rattle.cpe_records.specs.declared.member.Member.TheVariants as part
use Rattle.cpe_records.specs.declared.member.RecordFault.{RecordFault}
use Rattle.cpe_records.specs.declared.member.RecordFault.TheVariants as fault
use Rattle.cpe_records.specs.declared.draft.Draft.{Draft, Logic}
use Rattle.cpe_records.specs.declared.draft.Draft.TheOpen.{Draft-F}
use Rattle.cpe_records.specs.declared.draft.Draft.TheViews.{roll-Draft}
use Rattle.cpe_records.specs.declared.draft.Draft.TheVariants.{rolls-Logic}
use Rattle.cpe_records.specs.declared.draft.Draft.TheFolds.{fold-Draft, fold-roll-Draft, ind-Draft, map-Draft}
use Rattle.cpe_records.proofs.Drafts.{draft_of-looked_up, looked_up}
use Rattle.cpe_records.proofs.InTurn.{names_from-logic}
use Rattle.cpe_records.specs.FirstFault.{Yields}
use Rattle.cpe_records.proofs.YieldLemmas.{behind}
use Rattle.cpe_records.proofs.SoundTests.{Each, formed, Agrees, reads_as}
use Rattle.cpe_records.proofs.FormedTests.{data_formed}

abbrev logic_step : Draft-F Bool → Bool
logic_step (Draft-F.Logic operator negate of) = true
logic_step (Draft-F.Fact name) = false
logic_step (Draft-F.Check key) = false

abbrev logic : Draft → Bool
logic = fold-Draft Bool logic_step

logic_there : (o : Operator) (b : Bool) (ds : List Draft) → logic (Logic o b ds) ≡ true
logic_there o b ds = ap logic (sym (rolls-Logic o b ds)) ∙ fold-roll-Draft Bool logic_step (Draft-F.Logic o b ds)

abbrev IsLogic : test.Test × ℕ → Type 0
IsLogic r = is_logic (test.out-Test r.0) ≡ true

logic_out : (o : Operator) (b : Bool) (ts : List test.Test) → is_logic (test.out-Test (test.Logic o b ts)) ≡ true
logic_out o b ts = ap (λ t. is_logic (test.out-Test t)) (sym (test_rolls.rolls-Logic o b ts)) ∙ ap is_logic (out-roll-Test (Test-F.Logic o b ts))

abbrev StaysLogic : Draft → Type 0
StaysLogic d = (n : ℕ) → logic d ≡ true → Each IsLogic (names_from d n)

made_logic : (o : Operator) (b : Bool) (r : Result (List test.Test × ℕ) RecordFault) → Each IsLogic (r >>= λ x. Ok (test.Logic o b x.0, x.1))
made_logic o b (Err e) = tt
made_logic o b (Ok x) = logic_out o b x.0

abbrev Shown : Type 0
Shown = (d : Draft) × StaysLogic d

rolled : (y : Draft-F Shown) → StaysLogic (roll-Draft (map-Draft Shown Draft (λ e. e.0) y))
rolled (Draft-F.Logic o b es) =
    let ds : List Draft = map (λ e. e.0) es in
    subst StaysLogic (sym (rolls-Logic o b ds)) (λ n h. subst (Each IsLogic) (sym (names_from-logic o b ds n)) (made_logic o b (in_turn (map names_from ds) n)))
rolled (Draft-F.Fact name) = λ n h. let no_way : false ≡ true = sym (fold-roll-Draft Bool logic_step (Draft-F.Fact name)) ∙ h in absurd (let wrong : ⊥ = cc in wrong)
rolled (Draft-F.Check key) = λ n h. let no_way : false ≡ true = sym (fold-roll-Draft Bool logic_step (Draft-F.Check key)) ∙ h in absurd (let wrong : ⊥ = cc in wrong)

stays_logic : (d : Draft) → StaysLogic d
stays_logic = ind-Draft StaysLogic (λ x y is. subst (λ z. StaysLogic (roll-Draft z)) is (rolled y))

logic_in_logic : (d : Data) (r : Result (List Draft) RecordFault) → Yields logic (logic_in d r)
unfolding logic_in
logic_in_logic d (Err e) = tt
logic_in_logic d (Ok []) = tt
logic_in_logic d (Ok (x ∷ xs)) = behind logic (operator_in d) _ (λ o. behind logic (flag_or_false part.Test (codes "negate") d) _ (λ b. logic_there o b (x ∷ xs)))

draft_logic : (f : Format) (d : Data) → is_some (get (codes "op") d) ≡ true → Yields logic (draft_of f d)
draft_logic f d h =
    let r = looked_up f (get (codes "of") d) in
    subst (Yields logic) (sym (draft_of-looked_up f d ∙ ap (λ b. if b then logic_in d r else leaf_read f d) h)) (logic_in_logic d r)

-- a formed draft that is a logical test
abbrev Good : Draft → Type 0
Good d = (formed d ≡ true) × (logic d ≡ true)

both : (r : Result Draft RecordFault) → Yields formed r → Yields logic r → Each Good r
both (Ok d) f l = (f, l)
both (Err e) f l = tt

read_good : (d : Draft) → Good d → nat_le (draft_depth d) MOST_LEVELS ≡ true → (r : Result (test.Test × ℕ) RecordFault) → Each (Agrees d) r → Each IsLogic r → Yields is_statement_test (r >>= λ x. Ok x.0)
read_good d g w (Err e) a l = tt
read_good d g w (Ok x) a l = and_from _ _ (and_from _ _ l (ap (λ n. nat_le n MOST_LEVELS) a.1 ∙ w)) (a.0 g.0)

shallow_good : (d : Draft) → Good d → (b : Bool) → nat_le (draft_depth d) MOST_LEVELS ≡ b → Yields is_statement_test ((if b then Ok d else Err fault.TooDeep) >>= λ s. names_from s 1 >>= λ x. Ok x.0)
shallow_good d g true w = read_good d g w (names_from d 1) (reads_as d 1) (stays_logic d 1 g.1)
shallow_good d g false w = tt

draft_good : (r : Result Draft RecordFault) → Each Good r → Yields is_statement_test (r >>= λ t. within_test_limit t >>= λ s. names_from s 1 >>= λ x. Ok x.0)
draft_good (Err e) g = tt
draft_good (Ok d) g = shallow_good d g (nat_le (draft_depth d) MOST_LEVELS) refl

op_there : (f : Format) (d : Data) (b : Bool) → is_some (get (codes "op") d) ≡ b
    → Yields is_statement_test ((if b then Ok d else Err (fault.Member part.Test)) >>= λ l. draft_of f l >>= λ t. within_test_limit t >>= λ s. names_from s 1 >>= λ x. Ok x.0)
op_there f d true h = draft_good (draft_of f d) (both (draft_of f d) (data_formed f d) (draft_logic f d h))
op_there f d false h = tt

test_valid : (f : Format) (d : Data) → Yields is_statement_test (test_in f d)
unfolding test_in
test_valid f d = op_there f d (is_some (get (codes "op") d)) refl

pub test_at_valid : (f : Format) (d : Data) → Yields is_statement_test (test_at f d)
test_at_valid f d = behind is_statement_test (required_member part.Test (member_at part.Test d)) (test_in f) (test_valid f)
