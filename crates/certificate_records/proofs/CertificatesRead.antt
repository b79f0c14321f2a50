-- Lemmas: the written form of a certificate is read as that certificate.
use Rattle.std.proofs.Common.{◌≡◌, ℕ, List, true, ◌&&◌, if◌then◌else◌, Some, None, nat_le, ap, ◌∙◌}
use Rattle.std.specs.Prelude.{Ok, Err, ok_or}
use Rattle.std.specs.Str.{IsUtf8}
use Rattle.std.proofs.lemmas.Bool.{and_parts}
use Rattle.serde_json.specs.Data.{Data}
use Rattle.cpe_rows.specs.Valid.{is_id}
use Rattle.cpe_rows.specs.declared.limits.TheConstants.{MOST_LEVELS}
use Rattle.cpe_records.specs.FirstFault.{◌>>=◌}
use Rattle.cpe_records.specs.Forms.{tested}
use Rattle.cpe_records.proofs.LineLemmas.{line_read}
use Rattle.record_writer.proofs.ReadBack.{data_of, read-printed}
use Rattle.certificate_check.specs.declared.certificate.Certificate.{Certificate}
use Rattle.certificate_records.specs.declared.fault.CertificateFault.TheVariants as fault
use Rattle.certificate_records.specs.Levels.{levels}
use Rattle.certificate_records.specs.Reading.{formed, within_why_limit, why_at, certificate_in, certificate_by, certificate_read_of}
use Rattle.certificate_records.specs.Whole.{HasNames, is_sound_why, is_formed}
use Rattle.certificate_records.specs.Written.{certificate_json, certificate_text}
use Rattle.certificate_records.proofs.Forms.{certificate_fits}
use Rattle.certificate_records.proofs.NamesRead.{ReadsNames}
use Rattle.certificate_records.proofs.WhysRead.{why_read}

passed : (id : List ℕ) → is_id id ≡ true → tested is_id id ≡ Some id
passed id h = ap (λ b. if b then Some id else None) h

module _ (reads : ReadsNames) (p : Certificate) (names : HasNames p.why) (h : is_formed p ≡ true) where
  abbrev shown : Data
  shown = data_of (certificate_json p)

  id_formed : is_id p.id ≡ true
  id_formed = (and_parts (is_id p.id) (nat_le (levels p.why) MOST_LEVELS && is_sound_why p.why) h).0

  shallow : nat_le (levels p.why) MOST_LEVELS ≡ true
  shallow = (and_parts (nat_le (levels p.why) MOST_LEVELS) (is_sound_why p.why) (and_parts (is_id p.id) (nat_le (levels p.why) MOST_LEVELS && is_sound_why p.why) h).1).0

  sound : is_sound_why p.why ≡ true
  sound = (and_parts (nat_le (levels p.why) MOST_LEVELS) (is_sound_why p.why) (and_parts (is_id p.id) (nat_le (levels p.why) MOST_LEVELS && is_sound_why p.why) h).1).1

  why_there : why_at shown ≡ Ok p.why
  unfolding why_at
  why_there =
      ap (λ r. r >>= λ given. formed given >>= λ w. within_why_limit w) (why_read reads p.why names sound)
      ∙ ap (λ b. if b then Ok p.why else Err fault.Why) shallow

  certificate_there : certificate_in shown ≡ Ok p
  unfolding certificate_in
  certificate_there = λ i. ok_or (passed p.id id_formed i) fault.Id >>= λ id. why_there i >>= λ w. Ok (record { id = id; why = w })

  pub certificate_read : IsUtf8 (certificate_text p) → certificate_read_of (certificate_text p) ≡ Ok (Some p)
  unfolding certificate_read_of certificate_text
  certificate_read u =
      ap certificate_by (line_read (certificate_text p) shown (u, read-printed (certificate_json p) (certificate_fits p shallow)))
      ∙ ap (λ r. r >>= λ it. Ok (Some it)) certificate_there
