-- Lemmas: a line whose member `do` is `proof` is no record.
use Rattle.std.proofs.Common.{◌≡◌, ℕ, List, Bool, true, false, if◌then◌else◌, codes, bytes_eq, refl, ap}
use Rattle.std.specs.Prelude.{Ok, Err, Option, Some, None, option_and_then}
use Rattle.std.specs.Option.{option_map_or}
use Rattle.std.proofs.lemmas.Slice.Eq.{bytes_eq-Decides}
use Rattle.serde_json.specs.Data.{Data}
use Rattle.cpe_records.specs.Gives.{◌>>=◌}
use Rattle.cpe_records.specs.Forms.{required_member, text_in, word_at}
use Rattle.cpe_records.specs.Formats.{format_at}
use Rattle.cpe_records.specs.Line.{json_value_of}
use Rattle.cpe_records.specs.declared.member.Member.TheVariants as member
use Rattle.cpe_records.specs.declared.member.RecordFault.TheVariants as fault
use Rattle.cpe_records.specs.Reading.{record_by, record_json_of, record_of}
use Rattle.cpe_records.specs.RecordKinds.{record_kind_of}
use Rattle.certificate_records.specs.Reading.{certificate_in, certificate_by, certificate_read_of}

-- the line is read as a certificate or as a fault; `b` says whether `do` is `proof`
abbrev Speaks : Data → Bool → Type 0
Speaks d b = ¬ ((if b then (certificate_in d >>= λ p. Ok (Some p)) else Ok None) ≡ Ok None)

no_kind : (d : Data) (b : Bool) (word : List ℕ) → bytes_eq word (codes "proof") ≡ b → Speaks d b → record_kind_of word ≡ None
no_kind d true word h speaks = ap record_kind_of ((bytes_eq-Decides word (codes "proof")).0 h)
no_kind d false word h speaks = absurd (speaks refl)

word_refused : (d : Data) (word : Option (List ℕ)) → Speaks d (option_map_or (λ w. bytes_eq w (codes "proof")) word false)
    → required_member member.Do (option_and_then record_kind_of word) ≡ Err (fault.Member member.Do)
word_refused d None speaks = absurd (speaks refl)
word_refused d (Some word) speaks = ap (required_member member.Do) (no_kind d (bytes_eq word (codes "proof")) word refl speaks)

value_refused : (o : Option Data) → ¬ (certificate_by o ≡ Ok None)
    → (record_json_of o >>= λ d. word_at record_kind_of member.Do d >>= λ v. format_at d >>= λ f. record_by v f d) ≡ Err (fault.Member member.Do)
value_refused None speaks = absurd (speaks refl)
value_refused (Some d) speaks = ap (λ r. r >>= λ v. format_at d >>= λ f. record_by v f d) (word_refused d (text_in (codes "do") d) speaks)

pub no_record : (line : List ℕ) → ¬ (certificate_read_of line ≡ Ok None) → record_of line ≡ Err (fault.Member member.Do)
unfolding certificate_read_of record_of
no_record line speaks = value_refused (json_value_of line) speaks
