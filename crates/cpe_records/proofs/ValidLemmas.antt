-- Lemmas about the members of valid records: names are in lower case, and ids have the form of an id.
use Rattle.std.proofs.Common.{◌≡◌, ℕ, List, Bool, true, ◌&&◌, refl}
use Rattle.std.specs.Prelude.{is_none, codes}
use Rattle.std.specs.List.{list_all}
use Rattle.std.proofs.lemmas.Bool.{and_from}
use Rattle.serde_json.specs.Data.{Data}
use Rattle.cpe_rows.specs.Names.{is_lower}
use Rattle.cpe_rows.specs.Valid.{is_id}
use Rattle.cpe_rows.specs.declared.edit.Edit.{Edit}
use Rattle.cpe_rows.specs.declared.edit.Edit.TheVariants as edit
use Rattle.cpe_rows.specs.declared.edit.Query.{Query}
use Rattle.cpe_rows.specs.declared.entry.Deprecation.{Deprecation}
use Rattle.cpe_rows.specs.declared.entry.Entry.{Entry}
use Rattle.cpe_rows.specs.cpe_name.Eleven.{Values}
use Rattle.cpe_records.specs.FirstFault.{Yields}
use Rattle.cpe_records.proofs.YieldLemmas.{then_yields, behind, tested_yields}
use Rattle.cpe_records.proofs.LowerNames.{name_lower, successors_lower}
use Rattle.cpe_records.specs.Keys.{key_of}
use Rattle.cpe_records.specs.Words.{kind_of, truth_of_word}
use Rattle.cpe_records.specs.Forms.{word_at, flag_or_false, text_in}
use Rattle.cpe_records.specs.Names.{name_at, successors_at}
use Rattle.cpe_records.specs.declared.format.Format.{Format}
use Rattle.cpe_records.specs.Kinds.{statement_id_at, description_in, entry_in, remark_in, change_in, deprecation_in, restore_in, key_at, check_in, search_in}
use Rattle.cpe_records.specs.Taken.{is_valid_record}
use Rattle.cpe_records.specs.declared.read.Record.TheVariants as TheRecord
use Rattle.cpe_records.specs.declared.kinds.DeprecationChange.{DeprecationChange}
use Rattle.cpe_records.specs.declared.member.Member.TheVariants as member
use Rattle.cpe_records.specs.declared.member.RecordFault.TheVariants as fault

abbrev pub as_edit : Edit → Bool
as_edit e = is_valid_record (TheRecord.Edit e)

abbrev pub as_query : Query → Bool
as_query q = is_valid_record (TheRecord.Query q)

-- an entry without a deprecation, whose name is in lower case
abbrev pub is_new : Entry → Bool
is_new e = is_lower e.name && is_none e.deprecation

pub entry_valid : (f : Format) (d : Data) → Yields is_new (entry_in f d)
unfolding entry_in
entry_valid f d = then_yields is_lower is_new (name_at f d) _ (name_lower f d) (λ n h. behind is_new (description_in d) _ (λ rest. and_from _ _ h refl))

-- a change whose successors are in lower case
abbrev are_lower : DeprecationChange → Bool
are_lower c = list_all is_lower c.deprecation.successors

change_lower : (f : Format) (d : Data) → Yields are_lower (change_in f d)
unfolding change_in
change_lower f d =
    behind are_lower (word_at kind_of member.Kind d) _
    (λ kind. then_yields (list_all is_lower) are_lower (successors_at f d) _ (successors_lower f d) (λ ns k. behind are_lower (remark_in d) _ (λ remark. k)))

-- lemma: an edit of a deprecation is valid, for both kinds of edits
deprecation_valid : (kind : Values → Deprecation → List ℕ → List ℕ → Edit) → ((n : Values) (c : DeprecationChange) → is_lower n ≡ true → are_lower c ≡ true → as_edit (kind n c.deprecation c.remark.date c.remark.comment) ≡ true) → (f : Format) (d : Data) → Yields as_edit (deprecation_in kind f d)
unfolding deprecation_in
deprecation_valid kind valid f d =
    then_yields is_lower as_edit (name_at f d) _ (name_lower f d) (λ n h. then_yields are_lower as_edit (change_in f d) _ (change_lower f d) (λ c k. valid n c h k))

pub deprecate_valid : (f : Format) (d : Data) → Yields as_edit (deprecation_in edit.Deprecate f d)
deprecate_valid = deprecation_valid edit.Deprecate (λ n c h k. and_from _ _ h k)

pub amend_valid : (f : Format) (d : Data) → Yields as_edit (deprecation_in edit.Amend f d)
amend_valid = deprecation_valid edit.Amend (λ n c h k. and_from _ _ h k)

pub restore_valid : (f : Format) (d : Data) → Yields as_edit (restore_in f d)
unfolding restore_in
restore_valid f d = then_yields is_lower as_edit (name_at f d) _ (name_lower f d) (λ n h. behind as_edit (remark_in d) _ (λ rest. h))

pub check_valid : (d : Data) → Yields as_edit (check_in d)
unfolding check_in
check_valid d = behind as_edit (key_at d) _ (λ key. behind as_edit (word_at truth_of_word member.Result d) _ (λ t. refl))

pub search_valid : (f : Format) (d : Data) → Yields as_query (search_in f d)
unfolding search_in
search_valid f d =
    then_yields is_lower as_query (name_at f d) _ (name_lower f d) (λ n h. behind as_query (flag_or_false member.Active (codes "active") d) _ (λ a. h))

pub id_valid : (d : Data) → Yields is_id (statement_id_at d)
id_valid d = tested_yields is_id (fault.Member member.Id) (text_in (key_of member.Id) d)
