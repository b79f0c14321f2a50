-- Lemmas: the written form of a test is read as that test.
use Rattle.std.proofs.Common.{◌≡◌, ℕ, ◌+◌, suc, List, [], ◌∷◌, ◌++◌, Bool, true, ◌&&◌, map, length, nat_lt, nat_le, if◌then◌else◌, is_some, true≢false, codes, refl, ap, sym, ◌∙◌, subst}
use Rattle.std.specs.Prelude.{Result, Ok, Err, Some, All}
use Rattle.std.specs.List.{list_all, flat_map}
use Rattle.std.proofs.lemmas.Bool.{and_parts}
use Rattle.std.proofs.lemmas.List.Elements.{All-nil, All-cons, All-head, All-tail}
use Rattle.serde_json.specs.Data.{Data, Items, boolean, string, array, object, member, no_members}
use Rattle.serde_json.specs.Find.{get}
use Rattle.serde_json.specs.View.{items_of}
use Rattle.cpe_rows.specs.cpe_name.Eleven.{Values}
use Rattle.cpe_rows.specs.cpe_name.Names.{IsName}
use Rattle.cpe_rows.specs.FactNames.{fact_names, fact_names_step}
use Rattle.cpe_rows.specs.Shape.{depth_of, is_sound, sound_step}
use Rattle.cpe_rows.specs.Names.{is_lower}
use Rattle.cpe_rows.specs.Valid.{is_logic as is_logic_test, is_statement_test}
use Rattle.cpe_rows.specs.declared.limits.TheConstants.{MOST_LEVELS}
use Rattle.cpe_rows.specs.declared.test.Operator.{Operator}
use Rattle.cpe_rows.specs.declared.test.Operator.TheVariants.{And, Or}
use Rattle.cpe_rows.specs.declared.test.CheckKey.{CheckKey}
use Rattle.cpe_rows.specs.declared.test.Test as test
use Rattle.cpe_rows.specs.declared.test.Test.TheOpen.{Test-F}
use Rattle.cpe_rows.specs.declared.test.Test.TheViews.{roll-Test, out-roll-Test}
use Rattle.cpe_rows.specs.declared.test.Test.TheFolds.{fold-roll-Test, ind-Test, map-Test}
use Rattle.cpe_rows.specs.declared.test.Test.TheVariants as test_rolls
use Rattle.cpe_rows.proofs.TestNames.{names-logic}
use Rattle.cpe_records.specs.Gives.{◌>>=◌}
use Rattle.cpe_records.specs.Words.{operator_word, operator_of}
use Rattle.cpe_records.specs.Forms.{required_member}
use Rattle.cpe_records.specs.Names.{name_of_data}
use Rattle.cpe_records.specs.declared.format.Format.{Format}
use Rattle.cpe_records.specs.declared.member.Member.TheVariants as part
use Rattle.cpe_records.specs.declared.member.RecordFault.{RecordFault}
use Rattle.cpe_records.specs.declared.member.RecordFault.TheVariants as fault
use Rattle.cpe_records.specs.Tests.{key_in, logic_in, draft_of, drafts_of, draft_depth, within_test_limit, in_turn, names_from, name_step, test_in}
use Rattle.cpe_records.specs.declared.draft.Draft.{Draft, Logic, Fact, Check}
use Rattle.cpe_records.specs.declared.draft.Draft.TheOpen.{Draft-F}
use Rattle.cpe_records.specs.declared.draft.Draft.TheFolds.{fold-roll-Draft}
use Rattle.cpe_records.specs.declared.draft.Draft.TheVariants.{rolls-Fact, rolls-Check}
use Rattle.cpe_records.proofs.InTurn.{names_from-logic}
use Rattle.cpe_records.proofs.SoundTests.{Each, Agrees, reads_as}

all_parts : {A : Type 0} (P : A → Type 0) (xs ys : List A) → All P (xs ++ ys) → All P xs × All P ys
all_parts P [] ys h = (All-nil P, h)
all_parts P (x ∷ xs) ys h =
    let rest = all_parts P xs ys (All-tail P x (xs ++ ys) h) in
    (All-cons P x xs (All-head P x (xs ++ ys) h) rest.0, rest.1)

operator_read : (o : Operator) → operator_of (operator_word o) ≡ Some o
operator_read And = refl
operator_read Or = refl

-- the data of a logical test, with its members sorted by their keys
abbrev pub logic_data : Operator → Bool → Items → Data
logic_data o negate children = object (member (codes "negate") (boolean negate) (member (codes "of") (array children) (member (codes "op") (string (operator_word o)) no_members)))

abbrev pub fact_data : Data → Data
fact_data name = object (member (codes "fact") name no_members)

abbrev pub check_data : CheckKey → Data
check_data k =
    object (member (codes "check") (object (member (codes "href") (string k.href) (member (codes "id") (string k.id) (member (codes "system") (string k.system) no_members)))) no_members)

logic_made : (o : Operator) (negate : Bool) (children : Items) (ds : List Draft) → nat_lt 0 (length ds) ≡ true → logic_in (logic_data o negate children) (Ok ds) ≡ Ok (Logic o negate ds)
unfolding logic_in
logic_made o negate children [] h = let wrong : ⊥ = cc in absurd wrong
logic_made o negate children (d ∷ ds) h = λ i. required_member part.Test (operator_read o i) >>= λ operator. Ok (Logic operator negate (d ∷ ds))

sound-logic : (o : Operator) (b : Bool) (ts : List test.Test) → is_sound (test.Logic o b ts) ≡ (nat_lt 0 (length (map is_sound ts)) && list_all (λ c. c) (map is_sound ts))
sound-logic o b ts = ap is_sound (sym (test_rolls.rolls-Logic o b ts)) ∙ fold-roll-Test Bool sound_step (Test-F.Logic o b ts)

sound-fact : (w : Values) → is_sound (test.Fact w) ≡ is_lower w
sound-fact w = ap is_sound (sym (test_rolls.rolls-Fact w)) ∙ fold-roll-Test Bool sound_step (Test-F.Fact w)

names-fact : (w : Values) → fact_names (test.Fact w) ≡ w ∷ []
names-fact w = ap fact_names (sym (test_rolls.rolls-Fact w)) ∙ fold-roll-Test (List Values) fact_names_step (Test-F.Fact w)

abbrev Namer : Type 0
Namer = ℕ → Result (test.Test × ℕ) RecordFault

names_from-fact : (w : Values) (n : ℕ) → names_from (Fact (Ok w)) n ≡ Ok (test.Fact w, n + 1)
names_from-fact w n = ap (λ d. names_from d n) (sym (rolls-Fact (Ok w))) ∙ ap (λ (f : Namer). f n) (fold-roll-Draft Namer name_step (Draft-F.Fact (Ok w)))

names_from-check : (k : CheckKey) (n : ℕ) → names_from (Check k) n ≡ Ok (test.Check k, n)
names_from-check k n = ap (λ d. names_from d n) (sym (rolls-Check k)) ∙ ap (λ (f : Namer). f n) (fold-roll-Draft Namer name_step (Draft-F.Check k))

module _ (f : Format) (shown : test.Test → Data) (name : Values → Data)
    (logics : (o : Operator) (negate : Bool) (of : List test.Test) → shown (test.Logic o negate of) ≡ logic_data o negate (items_of (map shown of)))
    (facts : (w : Values) → shown (test.Fact w) ≡ fact_data (name w)) (checks : (k : CheckKey) → shown (test.Check k) ≡ check_data k)
    (written : (w : Values) → IsName w → is_lower w ≡ true → name_of_data f (name w) ≡ Some (Ok w)) where
  -- a draft that is read from the written form of a test, and whose names give this test
  pub record IsDrafted (t : test.Test) : Type 0 where
    pub draft : Draft
    pub formed : draft_of f (shown t) ≡ Ok draft
    pub named : (n : ℕ) → (m : ℕ) × (names_from draft n ≡ Ok (t, m))

  pub record AreDrafted (ts : List test.Test) : Type 0 where
    pub drafts : List Draft
    pub formed : drafts_of f (items_of (map shown ts)) ≡ Ok drafts
    pub many : length drafts ≡ length (map is_sound ts)
    pub named : (n : ℕ) → (m : ℕ) × (in_turn (map names_from drafts) n ≡ Ok (ts, m))

  abbrev pub Drafts : test.Test → Type 0
  Drafts t = All IsName (fact_names t) → is_sound t ≡ true → IsDrafted t

  abbrev pub Shown : Type 0
  Shown = (t : test.Test) × Drafts t

  abbrev tests : List Shown → List test.Test
  tests es = map (λ (e : Shown). e.0) es

  all_drafted : (es : List Shown) → All IsName (flat_map fact_names (tests es)) → list_all (λ b. b) (map is_sound (tests es)) ≡ true → AreDrafted (tests es)
  all_drafted [] h k = record { drafts = []; formed = refl; many = refl; named = λ n. (n, refl) }
  all_drafted (e ∷ es) h k =
      let names = all_parts IsName (fact_names e.0) (flat_map fact_names (tests es)) h in
      let sound = and_parts (is_sound e.0) (list_all (λ b. b) (map is_sound (tests es))) k in
      let one = e.1 names.0 sound.0 in
      let rest = all_drafted es names.1 sound.1 in
      record {
        drafts = one.draft ∷ rest.drafts;
        formed = λ i. one.formed i >>= λ t. rest.formed i >>= λ ts. Ok (t ∷ ts);
        many = ap suc rest.many;
        named = λ n.
            let first = one.named n in
            let later = rest.named first.0 in (
              later.0,
              ap (λ r. r >>= λ x. in_turn (map names_from rest.drafts) x.1 >>= λ xs. Ok (x.0 ∷ xs.0, xs.1)) first.1 ∙ ap (λ r. r >>= λ xs. Ok (e.0 ∷ xs.0, xs.1)) later.1,
            );
      }

  logic_drafted : (o : Operator) (negate : Bool) (es : List Shown) → Drafts (test.Logic o negate (tests es))
  logic_drafted o negate es h k =
      let of = tests es in
      let sound = and_parts (nat_lt 0 (length (map is_sound of))) (list_all (λ c. c) (map is_sound of)) (sym (sound-logic o negate of) ∙ k) in
      let all = all_drafted es (subst (All IsName) (names-logic o negate of) h) sound.1 in
      let children = items_of (map shown of) in
      record {
        draft = Logic o negate all.drafts;
        formed =
            ap (draft_of f) (logics o negate of)
            ∙ (ap (logic_in (logic_data o negate children)) all.formed ∙ logic_made o negate children all.drafts (ap (nat_lt 0) all.many ∙ sound.0));
        named = λ n. let r = all.named n in (r.0, names_from-logic o negate all.drafts n ∙ ap (λ x. x >>= λ y. Ok (test.Logic o negate y.0, y.1)) r.1);
      }

  fact_drafted : (w : Values) → Drafts (test.Fact w)
  fact_drafted w h k = record {
    draft = Fact (Ok w);
    formed =
        ap (draft_of f) (facts w)
        ∙ ap (λ o. required_member part.Test o >>= λ found. Ok (Fact found)) (written w (All-head IsName w [] (subst (All IsName) (names-fact w) h)) (sym (sound-fact w) ∙ k));
    named = λ n. (n + 1, names_from-fact w n);
  }

  key_read : (k : CheckKey) → key_in (object (member (codes "href") (string k.href) (member (codes "id") (string k.id) (member (codes "system") (string k.system) no_members)))) ≡ Ok k
  unfolding key_in
  key_read k = refl

  check_drafted : (k : CheckKey) → Drafts (test.Check k)
  check_drafted k h s = record {
    draft = Check k;
    formed = ap (draft_of f) (checks k) ∙ ap (λ r. r >>= λ key. Ok (Check key)) (key_read k);
    named = λ n. (n, names_from-check k n);
  }

  rolled : (y : Test-F Shown) → Drafts (roll-Test (map-Test Shown test.Test (λ e. e.0) y))
  rolled (Test-F.Logic o b es) = subst Drafts (sym (test_rolls.rolls-Logic o b (tests es))) (logic_drafted o b es)
  rolled (Test-F.Fact w) = subst Drafts (sym (test_rolls.rolls-Fact w)) (fact_drafted w)
  rolled (Test-F.Check k) = subst Drafts (sym (test_rolls.rolls-Check k)) (check_drafted k)

  pub drafts : (t : test.Test) → Drafts t
  drafts = ind-Test Drafts (λ x y is. subst (λ z. Drafts (roll-Test z)) is (rolled y))

  -- ---- the member `test`

  deep_enough : (t : test.Test) (d : IsDrafted t) → draft_depth d.draft ≡ depth_of t
  deep_enough t d = let read = d.named 1 in sym (subst (Each (Agrees d.draft)) read.1 (reads_as d.draft 1)).1

  abbrev OpThere : test.Test → Type 0
  OpThere t = is_logic_test (test.out-Test t) ≡ true → is_some (get (codes "op") (shown t)) ≡ true

  abbrev ShownOp : Type 0
  ShownOp = (t : test.Test) × OpThere t

  op_rolled : (y : Test-F ShownOp) → OpThere (roll-Test (map-Test ShownOp test.Test (λ e. e.0) y))
  op_rolled (Test-F.Logic o b es) h =
      let of : List test.Test = map (λ (e : ShownOp). e.0) es in
      ap (λ t. is_some (get (codes "op") (shown t))) (test_rolls.rolls-Logic o b of) ∙ ap (λ d. is_some (get (codes "op") d)) (logics o b of)
  op_rolled (Test-F.Fact w) h = absurd (true≢false (sym h ∙ ap is_logic_test (out-roll-Test (Test-F.Fact w))))
  op_rolled (Test-F.Check k) h = absurd (true≢false (sym h ∙ ap is_logic_test (out-roll-Test (Test-F.Check k))))

  op_there : (t : test.Test) → OpThere t
  op_there = ind-Test OpThere (λ x y is. subst (λ z. OpThere (roll-Test z)) is (op_rolled y))

  pub test_read : (t : test.Test) → All IsName (fact_names t) → is_statement_test t ≡ true → test_in f (shown t) ≡ Ok t
  unfolding test_in
  test_read t names h =
      let p = and_parts (is_logic_test (test.out-Test t) && nat_le (depth_of t) MOST_LEVELS) (is_sound t) h in
      let q = and_parts (is_logic_test (test.out-Test t)) (nat_le (depth_of t) MOST_LEVELS) p.0 in
      let d = shown t in
      let drafted = drafts t names p.1 in
      let read = drafted.named 1 in
      ap (λ b. (if b then Ok d else Err (fault.Member part.Test)) >>= λ logic. draft_of f logic >>= λ draft. within_test_limit draft >>= λ shallow. names_from shallow 1 >>= λ read. Ok read.0) (op_there t q.0)
      ∙ (ap (λ r. r >>= λ draft. within_test_limit draft >>= λ shallow. names_from shallow 1 >>= λ read. Ok read.0) drafted.formed
      ∙ (ap (λ b. (if b then Ok drafted.draft else Err fault.TooDeep) >>= λ shallow. names_from shallow 1 >>= λ read. Ok read.0) (ap (λ n. nat_le n MOST_LEVELS) (deep_enough t drafted) ∙ q.1)
      ∙ ap (λ r. r >>= λ read. Ok read.0) read.1))
