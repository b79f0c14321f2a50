-- Lemmas: a draft that is read is formed. This means that each logical test has a child, and that names are in lower
-- case.
use Rattle.std.proofs.Common.{◌≡◌, ℕ, suc, List, [], ◌∷◌, Bool, true, false, ◌&&◌, map, length, nat_lt, if◌then◌else◌, codes, Ordering, Less, Equal, Greater, is_some, refl, ap, sym, ◌∙◌, arith}
use Rattle.std.specs.Prelude.{Option, Some, None, Result, Ok, Err}
use Rattle.std.specs.List.{list_all}
use Rattle.std.specs.Ordering.{nat_cmp, match_ordering}
use Rattle.std.specs.Cmp.Lexicographic.{slice_cmp}
use Rattle.std.proofs.lemmas.Bool.{and_from}
use Rattle.std.proofs.lemmas.Bool.Decides.{nat_tests}
use Rattle.serde_json.specs.Data.{Data, null, boolean, number, string, array, object, Items, no_items, item, Members, no_members, member}
use Rattle.serde_json.specs.Find.{get}
use Rattle.cpe_rows.specs.declared.test.CheckKey.{CheckKey}
use Rattle.cpe_records.specs.Forms.{required_member, flag_or_false}
use Rattle.cpe_records.specs.Names.{name_of_data}
use Rattle.cpe_records.specs.declared.format.Format.{Format}
use Rattle.cpe_records.specs.Tests.{operator_in, key_in, logic_in, leaf_by, leaf_read, draft_of, children_in, drafts_in, drafts_of}
use Rattle.cpe_records.specs.declared.member.Member.TheVariants as part
use Rattle.cpe_records.specs.declared.member.RecordFault.{RecordFault}
use Rattle.cpe_records.specs.declared.draft.Draft.{Draft, Check}
use Rattle.cpe_records.specs.declared.draft.Draft.TheOpen.{Draft-F}
use Rattle.cpe_records.specs.declared.draft.Draft.TheVariants.{rolls-Check}
use Rattle.cpe_records.specs.declared.draft.Draft.TheFolds.{fold-roll-Draft}
use Rattle.cpe_records.specs.FirstFault.{Yields}
use Rattle.cpe_records.proofs.YieldLemmas.{then_yields, behind}
use Rattle.cpe_records.proofs.LowerNames.{is_lowered, name_in_lower}
use Rattle.cpe_records.proofs.SoundTests.{formed, formed_step, formed-logic, formed-fact}

all_mapped : (ds : List Draft) → list_all (λ b. b) (map formed ds) ≡ list_all formed ds
all_mapped [] = refl
all_mapped (d ∷ ds) = ap (λ b. formed d && b) (all_mapped ds)

some_there : (n : ℕ) → nat_lt 0 (suc n) ≡ true
some_there n = grind (arith, nat_tests)

logic_formed : (d : Data) (r : Result (List Draft) RecordFault) → Yields (list_all formed) r → Yields formed (logic_in d r)
unfolding logic_in
logic_formed d (Err e) h = tt
logic_formed d (Ok []) h = tt
logic_formed d (Ok (x ∷ xs)) h =
    behind formed (operator_in d) _
    (λ o. behind formed (flag_or_false part.Test (codes "negate") d) _
    (λ b. formed-logic o b (x ∷ xs) ∙ and_from _ _ (some_there (length (map formed xs))) (all_mapped (x ∷ xs) ∙ h)))

check_formed : (key : CheckKey) → formed (Check key) ≡ true
check_formed key = ap formed (sym (rolls-Check key)) ∙ fold-roll-Draft Bool formed_step (Draft-F.Check key)

leaf_formed : (f : Format) (fact check : Option Data) → Yields formed (leaf_by f fact check)
leaf_formed f (Some fact) check = then_yields is_lowered formed (required_member part.Test (name_of_data f fact)) _ (name_in_lower f part.Test fact) (λ name h. formed-fact name ∙ h)
leaf_formed f None (Some check) = behind formed (key_in check) _ (λ key. check_formed key)
leaf_formed f None None = tt

by_formed : (f : Format) (d : Data) (op : Bool) (r : Result (List Draft) RecordFault) → Yields (list_all formed) r → Yields formed (if op then logic_in d r else leaf_read f d)
by_formed f d true r h = logic_formed d r h
by_formed f d false r h = leaf_formed f (get (codes "fact") d) (get (codes "check") d)

chosen : (o : Ordering) (r s : Result (List Draft) RecordFault) → Yields (list_all formed) r → Yields (list_all formed) s → Yields (list_all formed) (match_ordering o r s r)
chosen Less r s h k = h
chosen Equal r s h k = k
chosen Greater r s h k = h

mutual
  pub data_formed : (f : Format) (d : Data) → Yields formed (draft_of f d)
  data_formed f null = tt
  data_formed f (boolean b) = tt
  data_formed f (number n) = tt
  data_formed f (string s) = tt
  data_formed f (array ds) = tt
  data_formed f (object ms) = by_formed f (object ms) (is_some (get (codes "op") (object ms))) (children_in f ms) (children_formed f ms)

  children_formed : (f : Format) (ms : Members) → Yields (list_all formed) (children_in f ms)
  children_formed f no_members = tt
  children_formed f (member k d ms) = chosen (slice_cmp nat_cmp (codes "of") k) (children_in f ms) (drafts_in f d) (children_formed f ms) (in_formed f d)

  in_formed : (f : Format) (d : Data) → Yields (list_all formed) (drafts_in f d)
  in_formed f null = tt
  in_formed f (boolean b) = tt
  in_formed f (number n) = tt
  in_formed f (string s) = tt
  in_formed f (array ds) = items_formed f ds
  in_formed f (object ms) = tt

  items_formed : (f : Format) (ds : Items) → Yields (list_all formed) (drafts_of f ds)
  items_formed f no_items = refl
  items_formed f (item d ds) =
      then_yields formed (list_all formed) (draft_of f d) _ (data_formed f d)
      (λ t h. then_yields (list_all formed) (list_all formed) (drafts_of f ds) _ (items_formed f ds) (λ ts k. and_from _ _ h k))
