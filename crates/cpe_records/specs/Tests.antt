-- The test of a statement (NIST IR 7698), in three passes: its form at any depth, its depth, and its names in their
-- order.
use Rattle.std.specs.Prelude.{ℕ, ◌+◌, suc, List, [], ◌∷◌, codes, Option, Some, None, Result, Ok, Err, option_and_then, is_some, nat_le, if◌then◌else◌}
use Rattle.std.specs.Ordering.{nat_cmp, match_ordering}
use Rattle.std.specs.Cmp.Lexicographic.{slice_cmp}
use Rattle.serde_json.specs.Data.{Data, null, boolean, number, string, array, object, Items, no_items, item, Members, no_members, member}
use Rattle.serde_json.specs.Find.{get, as_str}
use Rattle.cpe_rows.specs.Shape.{largest}
use Rattle.cpe_rows.specs.declared.limits.TheConstants.{MOST_LEVELS}
use Rattle.cpe_rows.specs.declared.test.Operator.{Operator}
use Rattle.cpe_rows.specs.declared.test.CheckKey.{CheckKey}
use Rattle.cpe_rows.specs.declared.test.Test as test
use Rattle.cpe_records.specs.Gives.{◌>>=◌}
use Rattle.cpe_records.specs.Words.{operator_of}
use Rattle.cpe_records.specs.Forms.{required_member, member_at, flag_or_false}
use Rattle.cpe_records.specs.Names.{name_of_data, at_spot}
use Rattle.cpe_records.specs.declared.format.Format.{Format}
use Rattle.cpe_records.specs.declared.member.RecordFault.{RecordFault}
use Rattle.cpe_records.specs.declared.member.RecordFault.TheVariants as fault
use Rattle.cpe_records.specs.declared.member.Member.TheVariants as part
use Rattle.cpe_records.specs.declared.member.NameSpot.TheVariants as spot
use Rattle.cpe_records.specs.declared.draft.Draft.{Draft, Logic, Fact, Check}
use Rattle.cpe_records.specs.declared.draft.Draft.TheOpen.{Draft-F}
use Rattle.cpe_records.specs.declared.draft.Draft.TheFolds.{fold-Draft}

-- ---- form

-- the text at a key of a check
abbrev pub part_in : List ℕ → Data → Result (List ℕ) RecordFault
part_in key d = required_member part.Test (option_and_then as_str (get key d))

-- the operator, which is the text `AND` or `OR`
abbrev pub operator_in : Data → Result Operator RecordFault
operator_in d = required_member part.Test (option_and_then operator_of (option_and_then as_str (get (codes "op") d)))

-- the list, if it has at least one element
abbrev pub some_tests : {A : Type 0} → List A → Result (List A) RecordFault
some_tests [] = Err (fault.Member part.Test)
some_tests (x ∷ xs) = Ok (x ∷ xs)

-- the key of a check: its system, href and id
unfoldable pub key_in : Data → Result CheckKey RecordFault
key_in d = do
  system ← part_in (codes "system") d
  href ← part_in (codes "href") d
  id ← part_in (codes "id") d
  Ok (record { system = system; href = href; id = id })

-- a logical test, from the drafts of its children
unfoldable pub logic_in : Data → Result (List Draft) RecordFault → Result Draft RecordFault
logic_in d children = do
  all ← children
  of ← some_tests all
  operator ← operator_in d
  negate ← flag_or_false part.Test (codes "negate") d
  Ok (Logic operator negate of)

-- a fact, if the value has the form of a name
abbrev pub fact_read : Format → Data → Result Draft RecordFault
fact_read f d = required_member part.Test (name_of_data f d) >>= λ name. Ok (Fact name)

-- a fact if there is a member `fact`; otherwise a check
abbrev pub leaf_by : Format → Option Data → Option Data → Result Draft RecordFault
leaf_by f (Some fact) check = fact_read f fact
leaf_by f None (Some check) = key_in check >>= λ key. Ok (Check key)
leaf_by f None None = Err (fault.Member part.Test)

abbrev pub leaf_read : Format → Data → Result Draft RecordFault
leaf_read f d = leaf_by f (get (codes "fact") d) (get (codes "check") d)

-- a logical test if the member `op` is there; otherwise a fact or a check
abbrev pub draft_by : Format → Data → Result (List Draft) RecordFault → Result Draft RecordFault
draft_by f d children = if is_some (get (codes "op") d) then logic_in d children else leaf_read f d

abbrev mutual
  -- the draft of a value, at any depth
  pub draft_of : Format → Data → Result Draft RecordFault
  draft_of f null = Err (fault.Member part.Test)
  draft_of f (boolean b) = Err (fault.Member part.Test)
  draft_of f (number n) = Err (fault.Member part.Test)
  draft_of f (string s) = Err (fault.Member part.Test)
  draft_of f (array ds) = Err (fault.Member part.Test)
  draft_of f (object ms) = draft_by f (object ms) (children_in f ms)

  -- the drafts of the children, from the array at the key `of`
  pub children_in : Format → Members → Result (List Draft) RecordFault
  children_in f no_members = Err (fault.Member part.Test)
  children_in f (member k d ms) = match_ordering (slice_cmp nat_cmp (codes "of") k) (children_in f ms) (drafts_in f d) (children_in f ms)

  pub drafts_in : Format → Data → Result (List Draft) RecordFault
  drafts_in f null = Err (fault.Member part.Test)
  drafts_in f (boolean b) = Err (fault.Member part.Test)
  drafts_in f (number n) = Err (fault.Member part.Test)
  drafts_in f (string s) = Err (fault.Member part.Test)
  drafts_in f (array ds) = drafts_of f ds
  drafts_in f (object ms) = Err (fault.Member part.Test)

  pub drafts_of : Format → Items → Result (List Draft) RecordFault
  drafts_of f no_items = Ok []
  drafts_of f (item d ds) = draft_of f d >>= λ t. drafts_of f ds >>= λ ts. Ok (t ∷ ts)

-- the drafts of the children, from the value at the key `of`; by the law `children_occur_at_of`, `children_in` gives
-- the same
abbrev pub children_at : Format → Option Data → Result (List Draft) RecordFault
children_at f None = Err (fault.Member part.Test)
children_at f (Some d) = drafts_in f d

-- the value itself, if it is a logical test
abbrev pub is_logic_test : Data → Result Data RecordFault
is_logic_test d = if is_some (get (codes "op") d) then Ok d else Err (fault.Member part.Test)

-- ---- depth

abbrev pub draft_depth_step : Draft-F ℕ → ℕ
draft_depth_step (Draft-F.Logic operator negate of) = suc (largest of)
draft_depth_step (Draft-F.Fact name) = 0
draft_depth_step (Draft-F.Check key) = 0

-- the depth of a draft, which is that of its test; a logical test without logical tests among its children has depth 1
abbrev pub draft_depth : Draft → ℕ
draft_depth = fold-Draft ℕ draft_depth_step

-- the draft, if it is not too deep
abbrev pub within_test_limit : Draft → Result Draft RecordFault
within_test_limit t = if nat_le (draft_depth t) MOST_LEVELS then Ok t else Err fault.TooDeep

-- ---- names

-- the results of these readers; each gets the count that the reader before it returned
abbrev pub in_turn : {B : Type 0} → List (ℕ → Result (B × ℕ) RecordFault) → ℕ → Result (List B × ℕ) RecordFault
in_turn [] n = Ok ([], n)
in_turn (r ∷ rs) n = r n >>= λ x. in_turn rs x.1 >>= λ xs. Ok (x.0 ∷ xs.0, xs.1)

abbrev pub name_step : Draft-F (ℕ → Result (test.Test × ℕ) RecordFault) → ℕ → Result (test.Test × ℕ) RecordFault
name_step (Draft-F.Logic operator negate of) n = in_turn of n >>= λ r. Ok (test.Logic operator negate r.0, r.1)
name_step (Draft-F.Fact name) n = at_spot (spot.Fact n) name >>= λ w. Ok (test.Fact w, n + 1)
name_step (Draft-F.Check key) n = Ok (test.Check key, n)

-- the test of a draft with its names, and the number of the next fact
abbrev pub names_from : Draft → ℕ → Result (test.Test × ℕ) RecordFault
names_from = fold-Draft (ℕ → Result (test.Test × ℕ) RecordFault) name_step

-- ---- all three passes

unfoldable pub test_in : Format → Data → Result test.Test RecordFault
test_in f d = do
  logic ← is_logic_test d
  draft ← draft_of f logic
  shallow ← within_test_limit draft
  read ← names_from shallow 1
  Ok read.0

abbrev pub test_at : Format → Data → Result test.Test RecordFault
test_at f d = required_member part.Test (member_at part.Test d) >>= test_in f
