-- Lemmas: the written form of a record is read as that record.
use Rattle.std.proofs.Common.{◌≡◌, ℕ, List, [], Bool, true, if◌then◌else◌, IsTrue, Option, Some, None, is_none, option_and_then, codes, refl, ap, ◌∙◌}
use Rattle.std.specs.Prelude.{Result, Ok, All}
use Rattle.std.specs.Str.{IsUtf8}
use Rattle.std.specs.List.{list_all}
use Rattle.std.proofs.lemmas.Bool.{and_parts}
use Rattle.serde_json.specs.Data.{Data, string}
use Rattle.serde_json.specs.Find.{get, as_str}
use Rattle.cpe_rows.specs.cpe_name.Eleven.{Values}
use Rattle.cpe_rows.specs.cpe_name.Names.{IsName}
use Rattle.cpe_rows.specs.Names.{is_lower}
use Rattle.cpe_rows.specs.Date.{is_date}
use Rattle.cpe_rows.specs.Valid.{is_id, is_statement_test, is_valid_edit, is_valid_query}
use Rattle.cpe_rows.specs.Formed.{IsDated, IsFormed, IsFormedEntry, IsFormedStatement}
use Rattle.cpe_rows.specs.declared.entry.Entry.{Entry}
use Rattle.cpe_rows.specs.declared.statement.Statement.{Statement}
use Rattle.cpe_rows.specs.declared.test.CheckKey.{CheckKey}
use Rattle.cpe_rows.specs.declared.truth.Truth.{Truth}
use Rattle.cpe_rows.specs.declared.entry.Deprecation.{Deprecation}
use Rattle.cpe_rows.specs.declared.edit.Edit.TheVariants as edit
use Rattle.cpe_rows.specs.declared.edit.Edit.{Edit}
use Rattle.cpe_rows.specs.declared.edit.Query.TheVariants as query
use Rattle.cpe_rows.specs.declared.edit.Query.{Query}
use Rattle.cpe_records.specs.Gives.{◌>>=◌}
use Rattle.cpe_records.specs.Forms.{required_member, or_default, tested, member_at, word_at}
use Rattle.cpe_records.specs.Formats.{format_at}
use Rattle.cpe_records.specs.Names.{named_in, name_at, successors_at}
use Rattle.cpe_records.specs.declared.format.Format.TheVariants.{Two}
use Rattle.cpe_records.specs.declared.member.Member.TheVariants as member
use Rattle.cpe_records.specs.declared.member.NameSpot.TheVariants as spot
use Rattle.cpe_records.specs.declared.member.RecordFault.{RecordFault}
use Rattle.cpe_records.specs.Kinds.{description_in, entry_in, remark_in, change_in, deprecation_in, restore_in, statement_in, key_at, check_in, search_in}
use Rattle.record_writer.specs.NameObject.{name_object}
use Rattle.cpe_records.specs.Reading.{record_by, record_of}
use Rattle.cpe_records.specs.Taken.{is_valid_record, IsFormedQuery, IsFormedRecord}
use Rattle.cpe_records.specs.RecordKinds.{record_kind_of}
use Rattle.record_writer.specs.WrittenRecord.{change_json, edit_json, query_json, record_json, record_text}
use Rattle.cpe_records.specs.declared.read.Record.{Record}
use Rattle.cpe_records.specs.declared.read.Record.TheVariants as of_kind
use Rattle.cpe_records.specs.declared.record_kind.RecordKind.{RecordKind}
use Rattle.cpe_records.specs.declared.record_kind.RecordKind.TheVariants as record_kind
use Rattle.record_writer.proofs.ReadBack.{data_of}
use Rattle.record_writer.proofs.NamesRead.{ReadsComponents, named_read, names_read}
use Rattle.record_writer.proofs.ProvenanceForms.{dated, provenance_read}
use Rattle.record_writer.proofs.RecordForms.{form_read}
use Rattle.record_writer.proofs.FormsRead.{test_read}
use Rattle.record_writer.proofs.WordForms.{kind_read, mode_read, truth_read}

passed : (p : List ℕ → Bool) (s : List ℕ) → p s ≡ true → tested p s ≡ Some s
passed p s h = ap (λ b. if b then Some s else None) h

no_deprecation : (o : Option Deprecation) → is_none o ≡ true → None ≡ o
no_deprecation None h = refl
no_deprecation (Some d) h = let wrong : ⊥ = cc in absurd wrong

remark_read : (date comment : List ℕ) → IsTrue (is_date date) → (d : Data) → get (codes "date") d ≡ Some (string date) → get (codes "comment") d ≡ Some (string comment) → remark_in d ≡ Ok (record { date = date; comment = comment })
unfolding remark_in
remark_read date comment h d there said =
    let is_dated = ap (λ o. option_and_then (tested is_date) (option_and_then as_str o)) there ∙ dated date h in
    λ i. required_member member.Date (is_dated i) >>= λ at. required_member member.Comment (or_default [] as_str (said i)) >>= λ text. Ok (record { date = at; comment = text })

description_read : (e : Entry) → All IsDated e.provenance.notes → description_in (data_of (edit_json (edit.Entry e))) ≡ Ok (record { title = e.title; provenance = e.provenance })
unfolding description_in
description_read e h = λ i. provenance_read e.provenance h i >>= λ provenance. Ok (record { title = e.title; provenance = provenance })

module _ (reads : ReadsComponents) where
  name_there : (w : Values) → IsName w → is_lower w ≡ true → (d : Data) → member_at member.Name d ≡ Some (data_of (name_object w)) → name_at Two d ≡ Ok w
  unfolding name_at
  name_there w name lower d there = ap (λ o. required_member member.Name o >>= named_in Two member.Name spot.Name) there ∙ named_read reads w name lower member.Name spot.Name

  -- lemma: the member `name` is read as the name, before the other members
  about_read : {A : Type 0} (w : Values) → IsName w → is_lower w ≡ true → (d : Data) → member_at member.Name d ≡ Some (data_of (name_object w)) → (f : Values → Result A RecordFault) → (name_at Two d >>= f) ≡ f w
  about_read w name lower d there f = ap (λ r. r >>= f) (name_there w name lower d there)

  id_read : {A : Type 0} (id : List ℕ) → is_id id ≡ true → (f : List ℕ → Result A RecordFault) → (required_member member.Id (tested is_id id) >>= f) ≡ f id
  id_read id h f = ap (λ o. required_member member.Id o >>= f) (passed is_id id h)

  entry_read : (e : Entry) → IsFormedEntry e → is_lower e.name ≡ true → is_none e.deprecation ≡ true → entry_in Two (data_of (edit_json (edit.Entry e))) ≡ Ok e
  unfolding entry_in
  entry_read e h lower none = λ i.
      name_there e.name h.name lower (data_of (edit_json (edit.Entry e))) refl i >>= λ name. description_read e h.notes i >>= λ rest.
      Ok (record { name = name; title = rest.title; provenance = rest.provenance; deprecation = no_deprecation e.deprecation none i })

  change_read : (v : RecordKind) (n : Values) (d : Deprecation) (date comment : List ℕ) → All IsName d.successors → list_all is_lower d.successors ≡ true → IsTrue (is_date date)
      → change_in Two (data_of (change_json v n d date comment)) ≡ Ok (record { deprecation = d; remark = record { date = date; comment = comment } })
  unfolding change_in successors_at
  change_read v n d date comment names lower h = λ i.
      required_member member.Kind (kind_read d.kind i) >>= λ kind. names_read reads spot.Successor member.Successors d.successors names lower i >>= λ successors.
      remark_read date comment h (data_of (change_json v n d date comment)) refl refl i >>= λ remark. Ok (record { deprecation = record { kind = kind; successors = successors }; remark = remark })

  deprecation_read : (f : Values → Deprecation → List ℕ → List ℕ → Edit) (v : RecordKind) (n : Values) (d : Deprecation) (date comment : List ℕ) → IsName n → is_lower n ≡ true
      → All IsName d.successors → list_all is_lower d.successors ≡ true → IsTrue (is_date date)
      → deprecation_in f Two (data_of (change_json v n d date comment)) ≡ Ok (f n d date comment)
  unfolding deprecation_in
  deprecation_read f v n d date comment name low names lower h = λ i.
      name_there n name low (data_of (change_json v n d date comment)) refl i >>= λ name. change_read v n d date comment names lower h i >>= λ rest.
      Ok (f name rest.deprecation rest.remark.date rest.remark.comment)

  restore_read : (n : Values) (date comment : List ℕ) → IsName n → is_lower n ≡ true → IsTrue (is_date date)
      → restore_in Two (data_of (edit_json (edit.Restore n date comment))) ≡ Ok (edit.Restore n date comment)
  unfolding restore_in
  restore_read n date comment name low h = λ i.
      let d : Data = data_of (edit_json (edit.Restore n date comment)) in
      name_there n name low d refl i >>= λ name. remark_read date comment h d refl refl i >>= λ rest. Ok (edit.Restore name rest.date rest.comment)

  statement_read : (s : Statement) → IsFormedStatement s → is_id s.id ≡ true → is_statement_test s.test ≡ true → statement_in Two (data_of (edit_json (edit.PutStatement s))) ≡ Ok s
  unfolding statement_in
  statement_read s h id valid = λ i.
      required_member member.Id (passed is_id s.id id i) >>= λ id. required_member member.Mode (mode_read s.mode i) >>= λ mode. test_read reads s.test h valid i >>= λ test.
      Ok (record { id = id; title = s.title; mode = mode; test = test })

  dropped_key_read : (k : CheckKey) → key_at (data_of (edit_json (edit.DropCheck k))) ≡ Ok k
  unfolding key_at
  dropped_key_read k = refl

  check_read : (k : CheckKey) (t : Truth) → check_in (data_of (edit_json (edit.SetCheck k t))) ≡ Ok (edit.SetCheck k t)
  unfolding check_in key_at
  check_read k t = λ i. required_member member.Result (truth_read t i) >>= λ result. Ok (edit.SetCheck k result)

  search_read : (n : Values) (active : Bool) → IsName n → is_lower n ≡ true → search_in Two (data_of (query_json (query.Search n active))) ≡ Ok (query.Search n active)
  unfolding search_in
  search_read n active name low = λ i. name_there n name low (data_of (query_json (query.Search n active))) refl i >>= λ name. Ok (query.Search name active)

  -- the kind, the format and the members of a record
  abbrev members_read : Data → Result Record RecordFault
  members_read d = word_at record_kind_of member.Do d >>= λ v. format_at d >>= λ f. record_by v f d

  edit_read : (e : Edit) → IsFormed e → is_valid_edit e ≡ true → members_read (data_of (edit_json e)) ≡ Ok (of_kind.Edit e)
  edit_read (edit.Entry e) h k = let p = and_parts (is_lower e.name) (is_none e.deprecation) k in ap (λ r. r >>= λ e. Ok (of_kind.Edit (edit.Entry e))) (entry_read e h p.0 p.1)
  edit_read (edit.Item n) h k = about_read n h k (data_of (edit_json (edit.Item n))) refl (λ n. Ok (of_kind.Edit (edit.Item n)))
  edit_read (edit.DropItem n) h k = about_read n h k (data_of (edit_json (edit.DropItem n))) refl (λ n. Ok (of_kind.Edit (edit.DropItem n)))
  edit_read (edit.Deprecate n d date comment) h k =
      let p = and_parts (is_lower n) (list_all is_lower d.successors) k in
      ap (λ r. r >>= λ e. Ok (of_kind.Edit e)) (deprecation_read edit.Deprecate record_kind.Deprecate n d date comment h.0 p.0 h.1 p.1 h.2)
  edit_read (edit.Amend n d date comment) h k =
      let p = and_parts (is_lower n) (list_all is_lower d.successors) k in
      ap (λ r. r >>= λ e. Ok (of_kind.Edit e)) (deprecation_read edit.Amend record_kind.Amend n d date comment h.0 p.0 h.1 p.1 h.2)
  edit_read (edit.Restore n date comment) h k = ap (λ r. r >>= λ e. Ok (of_kind.Edit e)) (restore_read n date comment h.0 k h.1)
  edit_read (edit.PutStatement s) h k = let p = and_parts (is_id s.id) (is_statement_test s.test) k in ap (λ r. r >>= λ s. Ok (of_kind.Edit (edit.PutStatement s))) (statement_read s h p.0 p.1)
  edit_read (edit.DropStatement id) h k = id_read id k (λ id. Ok (of_kind.Edit (edit.DropStatement id)))
  edit_read (edit.SetCheck key t) h k = ap (λ r. r >>= λ e. Ok (of_kind.Edit e)) (check_read key t)
  edit_read (edit.DropCheck key) h k = ap (λ r. r >>= λ k. Ok (of_kind.Edit (edit.DropCheck k))) (dropped_key_read key)

  query_read : (q : Query) → IsFormedQuery q → is_valid_query q ≡ true → members_read (data_of (query_json q)) ≡ Ok (of_kind.Query q)
  query_read (query.Lookup n) h k = about_read n h k (data_of (query_json (query.Lookup n))) refl (λ n. Ok (of_kind.Query (query.Lookup n)))
  query_read (query.Search n active) h k = ap (λ r. r >>= λ q. Ok (of_kind.Query q)) (search_read n active h k)
  query_read (query.Items n) h k = about_read n h k (data_of (query_json (query.Items n))) refl (λ n. Ok (of_kind.Query (query.Items n)))
  query_read (query.Chain n) h k = about_read n h k (data_of (query_json (query.Chain n))) refl (λ n. Ok (of_kind.Query (query.Chain n)))
  query_read (query.Show n) h k = about_read n h k (data_of (query_json (query.Show n))) refl (λ n. Ok (of_kind.Query (query.Show n)))
  query_read (query.Verdict id) h k = id_read id k (λ id. Ok (of_kind.Query (query.Verdict id)))

  all_members_read : (r : Record) → IsFormedRecord r → is_valid_record r ≡ true → members_read (data_of (record_json r)) ≡ Ok r
  all_members_read (of_kind.Edit e) h k = edit_read e h k
  all_members_read (of_kind.Query q) h k = query_read q h k

  -- lemma: the written form of a record is read as that record
  pub record_read : (r : Record) → IsFormedRecord r → is_valid_record r ≡ true → IsUtf8 (record_text r) → record_of (record_text r) ≡ Ok r
  unfolding record_of
  record_read r h k u = ap (λ x. x >>= members_read) (form_read r k u) ∙ all_members_read r h k
