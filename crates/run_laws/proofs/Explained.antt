-- If `explain` writes a certificate, `check` says that this certificate holds.
use Rattle.std.proofs.Common.{◌≡◌, ℕ, ◌+◌, List, [], ◌∷◌, ◌++◌, Bool, true, false, map, Option, Some, None, codes, if◌then◌else◌, inl, inr, refl, sym, ap, ◌∙◌, subst, append_assoc, append-nil, length, drop, not, get_or, arith, IsUtf8}
use Rattle.std.specs.Prelude.{Result, Ok, find}
use Rattle.std.specs.List.{flat_map, list_any, AllByRecursion}
use Rattle.std.specs.Option.{option_map_or}
use Rattle.std.proofs.lemmas.Bool.{and_parts, not-true}
use Rattle.std.proofs.lemmas.List.{drop_at}
use Rattle.std.proofs.lemmas.Slice.Eq.{bytes_eq-Decides}
use Rattle.cpe_rows.proofs.KeyTests.{other_bytes}
use Rattle.cpe_rows.proofs.Lists.{not_element}
use Rattle.cpe_command.specs.cpe_io.Lines.{lines}
use Rattle.cpe_command.specs.line_session.Session.{Stage, start, stage_after, after_next, line_says, next_writes, out_from, state_after, writes}
use Rattle.cpe_command.specs.line_session.Task.{Transcript}
use Rattle.cpe_command.proofs.line_session.SessionLemmas.{out_from-append}
use Rattle.cpe_rows.specs.Rows.{Rows, no_rows, has_id}
use Rattle.cpe_rows.specs.Reach.{Among}
use Rattle.cpe_rows.specs.Lawful.{IsLawful, are_different}
use Rattle.cpe_rows.specs.declared.statement.Statement.{Statement}
use Rattle.certificate_check.specs.Checks.{GoodCertificatesAreRight}
use Rattle.certificate_check.specs.Good.{Good}
use Rattle.certificate_check.specs.Tested.{test_passes}
use Rattle.certificate_check.specs.declared.certificate.Checked.{Checked}
use Rattle.certificate_check.specs.declared.certificate.Checked.TheVariants.{Holds, Fails, Absent}
use Rattle.certificate_check.specs.declared.certificate.Certificate.{Certificate}
use Rattle.certificate_check.specs.declared.certificate.Why.{Why}
use Rattle.certificate_check.proofs.TestedLemmas.{tested}
use Rattle.certificate_search.specs.Choices.{explained_certificate}
use Rattle.certificate_search.specs.Laws.{CertificatesAreGood}
use Rattle.cpe_records.specs.JsonTexts.{PrintsAreTexts}
use Rattle.json.specs.Print.{print_from}
use Rattle.certificate_records.specs.Reading.{certificate_read_of}
use Rattle.certificate_records.specs.Written.{certificate_text}
use Rattle.certificate_records.specs.declared.fault.CertificateFault.{CertificateFault}
use Rattle.certificate_records.proofs.GoodForms.{good_has_names}
use Rattle.cpe_records.specs.Reading.{record_of}
use Rattle.convert_lines.specs.line_replies.CertificateReplies.{certificate_lines, checked_line, checked_word}
use Rattle.cpe_command.specs.Checking.{checked}
use Rattle.cpe_command.specs.Records.{by_certificate_line, by_record, record_session}
use Rattle.cpe_command.specs.declared.records.RecordCommand.TheVariants.{Check, Explain}
use Rattle.snapshot_bytes.specs.States.{IsTextStatement}
use Rattle.run_laws.specs.Theorems.{rows_of_lines, AreLawfulTexts, WritesTranscript, certificates, LinesAreCheckedInTurn, EndsWithCertificates, EndsWithHolds, ExplainedIsChecked, HasVerdict, HeldIsVerdict}
use Rattle.run_laws.proofs.Folded.{rows_kept}
use Rattle.run_laws.proofs.Saved.{rows_after}
use Rattle.run_laws.proofs.Writing.{written_text}

-- ---- statements are found by their ids

each_among : {A : Type 0} (P : A → Type 0) (xs : List A) (x : A) → AllByRecursion P xs → Among xs x → P x
each_among P [] x h m = absurd m
each_among P (y ∷ ys) x h (inl is) = subst P is h.0
each_among P (y ∷ ys) x h (inr m) = each_among P ys x h.1 m

same_id : (s : Statement) → has_id s.id s ≡ true
same_id s = (bytes_eq-Decides s.id s.id).1 refl

found_at : (xs : List Statement) (s : Statement) → are_different (λ a. has_id a.id) xs ≡ true → Among xs s → find (has_id s.id) xs ≡ Some s
found_at [] s differ m = absurd m
found_at (x ∷ xs) s differ (inl is) =
    let yes : has_id s.id x ≡ true = ap (has_id s.id) is ∙ same_id s in
    ap (λ b. if b then Some x else find (has_id s.id) xs) yes ∙ ap Some is
found_at (x ∷ xs) s differ (inr m) =
    let parts = and_parts (not (list_any (has_id x.id) xs)) (are_different (λ a. has_id a.id) xs) differ in
    let other : has_id s.id x ≡ false = other_bytes s.id x.id (not_element (has_id x.id) xs (not-true (list_any (has_id x.id) xs) parts.0) s m) in
    ap (λ b. if b then Some x else find (has_id s.id) xs) other ∙ found_at xs s parts.1 m

-- ---- the result of the test of a certificate

abbrev said_of : Rows → Why → Option Statement → Checked
said_of rows w o = option_map_or (λ s. if test_passes rows s.mode s.test w then Holds else Fails) o Absent

checked_holds : (rows : Rows) → IsLawful rows → (s : Statement) → Among rows.statements s → (w : Why) → Good rows s w → checked rows (record { id = s.id; why = w }) ≡ Holds
unfolding checked
checked_holds rows lawful s there w good =
    ap (said_of rows w) (found_at rows.statements s lawful.ids_differ there) ∙ ap (λ b. if b then Holds else Fails) ((tested rows lawful s.mode s.test w).1 good)

module _ (right : GoodCertificatesAreRight) (rows : Rows) (lawful : IsLawful rows) (p : Certificate) where
  by_test : (s : Statement) → find (has_id p.id) rows.statements ≡ Some s → (b : Bool) → test_passes rows s.mode s.test p.why ≡ b → (if b then Holds else Fails) ≡ Holds → HasVerdict rows p
  by_test s found true passes holds =
      let good : Good rows s p.why = (tested rows lawful s.mode s.test p.why).0 passes in
      record { statement = s; found = found; good = good; gives = right rows s p.why good }
  by_test s found false passes holds = let wrong : ⊥ = cc in absurd wrong

  by_statement : (o : Option Statement) → find (has_id p.id) rows.statements ≡ o → said_of rows p.why o ≡ Holds → HasVerdict rows p
  by_statement None found holds = let wrong : ⊥ = cc in absurd wrong
  by_statement (Some s) found holds = by_test s found (test_passes rows s.mode s.test p.why) refl holds

  has_verdict : checked rows p ≡ Holds → HasVerdict rows p
  unfolding checked
  has_verdict holds = by_statement (find (has_id p.id) rows.statements) refl holds

-- ---- the line of a result

cancel : (front a b : List ℕ) → front ++ a ≡ front ++ b → a ≡ b
cancel front a b e = sym (drop_at front a (length front) refl) ∙ ap (drop (length front)) e ∙ drop_at front b (length front) refl

abbrev line_end : Checked → List ℕ
line_end said = checked_word said ++ codes "\n"

line_parts : (id : List ℕ) (said : Checked) → checked_line id said ≡ (codes "proof " ++ id ++ codes " ") ++ line_end said
line_parts id said = append_assoc (codes "proof " ++ id ++ codes " ") (checked_word said) (codes "\n")

says_holds : (said : Checked) → line_end said ≡ line_end Holds → said ≡ Holds
says_holds Holds e = refl
says_holds Fails e = let first : 102 ≡ 104 = ap (λ (l : List ℕ). get_or l 0 0) e in absurd (omega (arith, first))
says_holds Absent e = let first : 97 ≡ 104 = ap (λ (l : List ℕ). get_or l 0 0) e in absurd (omega (arith, first))

held : (id : List ℕ) (said : Checked) → checked_line id said ≡ checked_line id Holds → said ≡ Holds
held id said e = says_holds said (cancel (codes "proof " ++ id ++ codes " ") (line_end said) (line_end Holds) (sym (line_parts id said) ∙ e ∙ line_parts id Holds))

-- ---- a line under `check`

abbrev has_bytes : List ℕ → Bool
has_bytes [] = false
has_bytes (x ∷ xs) = true

-- the text of a certificate has bytes: it begins with a brace
text_has_bytes : (p : Certificate) → has_bytes (certificate_text p) ≡ true
unfolding certificate_text print_from
text_has_bytes p = refl

module _ (rows : Rows) (number : ℕ) (text : List ℕ) (p : Certificate) where
  by_certificate : (r : Result (Option Certificate) CertificateFault) → r ≡ Ok (Some p) → by_certificate_line rows r (by_record Check number rows (record_of text)) ≡ Ok (checked_line p.id (checked rows p), rows)
  by_certificate r is = ap (λ (q : Result (Option Certificate) CertificateFault). by_certificate_line rows q (by_record Check number rows (record_of text))) is

line_checked : (rows : Rows) (number : ℕ) (text : List ℕ) (p : Certificate) → certificate_read_of text ≡ Ok (Some p) → has_bytes text ≡ true
    → line_says (record_session Check) rows number (Some text) ≡ Ok (checked_line p.id (checked rows p), rows)
line_checked rows number [] p is some = let wrong : ⊥ = cc in absurd wrong
line_checked rows number (x ∷ xs) p is some = by_certificate rows number (x ∷ xs) p (certificate_read_of (x ∷ xs)) is

-- if `check` says that a line's certificate holds, the result of its test is that it holds
by_bytes : (rows : Rows) (number : ℕ) (line : List ℕ) (p : Certificate) → certificate_read_of line ≡ Ok (Some p)
    → writes false number (line_says (record_session Check) rows number (Some line)) ≡ checked_line p.id Holds → checked_line p.id (checked rows p) ≡ checked_line p.id Holds
by_bytes rows number [] p is holds = let wrong : ⊥ = cc in absurd wrong
by_bytes rows number (x ∷ xs) p is holds = sym (ap (writes false number) (line_checked rows number (x ∷ xs) p is refl)) ∙ holds

-- ---- certificates

abbrev after_line : Stage Rows → Option (List ℕ) → Stage Rows
after_line = after_next (record_session Check)

module _ (prints : PrintsAreTexts) (good : CertificatesAreGood)
    (read : (rows : Rows) → IsLawful rows → (s : Statement) → Among rows.statements s → (w : Why) → Good rows s w
    → IsUtf8 (certificate_text (record { id = s.id; why = w })) → certificate_read_of (certificate_text (record { id = s.id; why = w })) ≡ Ok (Some (record { id = s.id; why = w }))) where
  module _ (rows : Rows) (kept : AreLawfulTexts rows) (s : Statement) (there : Among rows.statements s) where
    is_good : Good rows s (explained_certificate rows s).why
    is_good = good rows kept.lawful s

    is_read : certificate_read_of (certificate_text (explained_certificate rows s)) ≡ Ok (Some (explained_certificate rows s))
    is_read =
        read rows kept.lawful s there (explained_certificate rows s).why is_good
        (written_text prints (explained_certificate rows s) (each_among IsTextStatement rows.statements s kept.texts.statements there).id
        (good_has_names rows kept.lawful s there (explained_certificate rows s).why is_good))

    is_said : (number : ℕ) → line_says (record_session Check) rows number (Some (certificate_text (explained_certificate rows s))) ≡ Ok (checked_line s.id Holds, rows)
    is_said number =
        line_checked rows number (certificate_text (explained_certificate rows s)) (explained_certificate rows s) is_read (text_has_bytes (explained_certificate rows s))
        ∙ ap (λ (said : Checked). Ok (checked_line s.id said, rows)) (checked_holds rows kept.lawful s there (explained_certificate rows s).why is_good)

  module _ (rows : Rows) (kept : AreLawfulTexts rows) where
    one_written : (stage : Stage Rows) → stage.state ≡ rows → (s : Statement) → Among rows.statements s
        → (next_writes (record_session Check) stage (Some (certificate_text (explained_certificate rows s))) ≡ checked_line s.id Holds) × ((after_line stage (Some (certificate_text (explained_certificate rows s)))).state ≡ rows)
    one_written stage is s there =
        let line = Some (certificate_text (explained_certificate rows s)) in
        let said = ap (λ (now : Rows). line_says (record_session Check) now (stage.number + 1) line) is ∙ is_said rows kept s there (stage.number + 1) in
        (ap (writes false (stage.number + 1)) said, ap (state_after stage.state) said)

    all_written : (stage : Stage Rows) → stage.state ≡ rows → (ss : List Statement) → ((s : Statement) → Among ss s → Among rows.statements s)
        → out_from (record_session Check) stage (map (λ s. Some (certificate_text (explained_certificate rows s))) ss) ≡ flat_map (λ s. checked_line s.id Holds) ss
    all_written stage is [] there = refl
    all_written stage is (s ∷ ss) there =
        let one = one_written stage is s (there s (inl refl)) in
        let rest = all_written (after_line stage (Some (certificate_text (explained_certificate rows s)))) one.1 ss (λ t m. there t (inr m)) in
        λ i. one.0 i ++ rest i

  -- ---- the runs

  explained_ends : (input : List ℕ) (explained : Transcript) → WritesTranscript (codes "explain") input explained → EndsWithCertificates input explained
  explained_ends input explained h = record {
    answers = out_from (record_session Explain) (start no_rows) (lines input);
    text = ap (λ (t : Transcript). t.text) h ∙ ap (λ now. out_from (record_session Explain) (start no_rows) (lines input) ++ certificate_lines now) (rows_after Explain (lines input));
  }

  checked_ends : (input both : List ℕ) (it : Transcript) → lines both ≡ lines input ++ certificates (rows_of_lines (lines input)) → WritesTranscript (codes "check") both it → EndsWithHolds input it
  checked_ends input both it joined h =
      let ls = lines input in
      let rows = rows_of_lines ls in
      let stage = stage_after (record_session Check) (start no_rows) ls in
      record {
        answers = out_from (record_session Check) (start no_rows) ls;
        text =
            ap (λ (t : Transcript). t.text) h ∙ append-nil (out_from (record_session Check) (start no_rows) (lines both)) ∙ ap (out_from (record_session Check) (start no_rows)) joined
            ∙ out_from-append (record_session Check) (start no_rows) ls (certificates rows)
            ∙ ap (λ (t : List ℕ). out_from (record_session Check) (start no_rows) ls ++ t) (all_written rows (rows_kept ls) stage (rows_after Check ls) rows.statements (λ s m. m));
      }

  pub explained_is_checked : ExplainedIsChecked
  explained_is_checked input both explained it explains joined checks = (explained_ends input explained explains, checked_ends input both it joined checks)

pub lines_are_checked_in_turn : LinesAreCheckedInTurn
lines_are_checked_in_turn input it before more line h splits =
    let session = record_session Check in
    let stage = stage_after session (start no_rows) before in
    record {
      later = out_from session (after_next session stage line) more;
      is = ap (λ (t : Transcript). t.text) h ∙ append-nil (out_from session (start no_rows) (lines input)) ∙ ap (out_from session (start no_rows)) splits
          ∙ out_from-append session (start no_rows) before (line ∷ more);
    }

-- ---- a certificate that holds

pub held_is_verdict : GoodCertificatesAreRight → HeldIsVerdict
held_is_verdict right before line p is holds =
    let rows = rows_of_lines before in
    let stage = stage_after (record_session Check) (start no_rows) before in
    let number = stage.number + 1 in
    let moved = ap (λ (now : Rows). writes false number (line_says (record_session Check) now number (Some line))) (rows_after Check before) in
    has_verdict right rows (rows_kept before).lawful p (held p.id (checked rows p) (by_bytes rows number line p is (sym moved ∙ holds)))
