-- The line of a refusal has no newline in it, and is no record.
use Rattle.std.proofs.Common.{◌≡◌, ℕ, zero, suc, ◌+◌, ◌/◌, ◌%◌, Bool, true, false, ◌==◌, nat_lt, nat_le, List, [], ◌∷◌, ◌++◌, Some, None, if◌then◌else◌, codes, refl, ap, arith}
use Rattle.std.specs.Prelude.{Result, Err}
use Rattle.std.specs.Fmt.{decimal, digits, digits_onto, digit_glyph}
use Rattle.std.proofs.lemmas.Bool.{le-leb}
use Rattle.json.specs.Json.{value}
use Rattle.json.specs.Lex.{lex, punctuate}
use Rattle.json.specs.Word.{word, after_number}
use Rattle.serde_json.specs.Data.{Data}
use Rattle.serde_json.specs.Read.{read}
use Rattle.cpe_rows.specs.cpe_name.Text.{attribute_name}
use Rattle.cpe_rows.specs.cpe_name.declared.attribute.Attribute.{Attribute}
use Rattle.cpe_rows.specs.cpe_name.declared.attribute.Attribute.TheVariants as attribute
use Rattle.cpe_rows.specs.Rows.{Rows}
use Rattle.cpe_records.specs.Keys.{key_of}
use Rattle.cpe_records.specs.Forms.{word_at}
use Rattle.cpe_records.specs.Formats.{format_at}
use Rattle.cpe_records.specs.Gives.{◌>>=◌}
use Rattle.cpe_records.specs.declared.member.Member.{Member}
use Rattle.cpe_records.specs.declared.member.Member.TheVariants as member
use Rattle.cpe_records.specs.declared.member.NameSpot.{NameSpot}
use Rattle.cpe_records.specs.declared.member.NameSpot.TheVariants.{Name, Successor, Fact}
use Rattle.cpe_records.specs.declared.member.RecordFault.{RecordFault}
use Rattle.cpe_records.specs.declared.member.RecordFault.TheVariants as fault
use Rattle.cpe_records.specs.Edited.{edited, line_edited}
use Rattle.cpe_records.specs.Reading.{record_json_of, record_by, record_of}
use Rattle.cpe_records.specs.RecordKinds.{record_kind_of}
use Rattle.cpe_records.specs.declared.read.Record.{Record}
use Rattle.cpe_records.proofs.LineLemmas.{line_refused}
use Rattle.line_replies.specs.Reasons.{record_fault_text, spot_text}
use Rattle.convert_lines.proofs.Clean.{Clean, clean-append, clean-cons}

clean_glyph : (d : ℕ) → nat_le 32 (digit_glyph false d) ≡ true
clean_glyph d = go (nat_lt d 10) where
  go : (b : Bool) → nat_le 32 (if b then 48 + d else 87 + d) ≡ true
  go true = le-leb 32 (48 + d) (omega arith)
  go false = le-leb 32 (87 + d) (omega arith)

clean_either : (b : Bool) (xs ys : List ℕ) → Clean xs → Clean ys → Clean (if b then xs else ys)
clean_either true xs ys h k = h
clean_either false xs ys h k = k

clean_digits : (k n : ℕ) (more : List ℕ) → Clean more → Clean (digits_onto k 10 false n more)
clean_digits zero n more h = h
clean_digits (suc k) n more h =
    let last = clean-cons (digit_glyph false (n % 10)) more (clean_glyph (n % 10)) h in
    clean_either (n / 10 == 0) (digit_glyph false (n % 10) ∷ more) (digits_onto k 10 false (n / 10) (digit_glyph false (n % 10) ∷ more)) last
    (clean_digits k (n / 10) (digit_glyph false (n % 10) ∷ more) last)

clean_decimal : (n : ℕ) → Clean (decimal n)
unfolding digits
clean_decimal n = clean_digits 64 n [] refl

clean_key : (m : Member) → Clean (key_of m)
clean_key member.Do = refl
clean_key member.V = refl
clean_key member.Name = refl
clean_key member.Title = refl
clean_key member.Provenance = refl
clean_key member.Kind = refl
clean_key member.Successors = refl
clean_key member.Date = refl
clean_key member.Comment = refl
clean_key member.Id = refl
clean_key member.Mode = refl
clean_key member.Test = refl
clean_key member.System = refl
clean_key member.Href = refl
clean_key member.Result = refl
clean_key member.Active = refl

clean_spot : (s : NameSpot) → Clean (spot_text s)
clean_spot Name = refl
clean_spot (Successor n) = clean_decimal n
clean_spot (Fact n) = clean_decimal n

clean_attribute : (a : Attribute) → Clean (attribute_name a)
clean_attribute attribute.Part = refl
clean_attribute attribute.Vendor = refl
clean_attribute attribute.Product = refl
clean_attribute attribute.Version = refl
clean_attribute attribute.Update = refl
clean_attribute attribute.Edition = refl
clean_attribute attribute.Language = refl
clean_attribute attribute.SwEdition = refl
clean_attribute attribute.TargetSw = refl
clean_attribute attribute.TargetHw = refl
clean_attribute attribute.Other = refl

-- a reason has no control character: a word, the name of the record that is meant, and what is wrong in this name
clean_at : (word : List ℕ) (spot : NameSpot) (where_ : List ℕ) → Clean word → Clean where_ → Clean (word ++ spot_text spot ++ codes " " ++ where_)
clean_at word spot where_ h k =
    clean-append (word ++ spot_text spot ++ codes " ") where_ (clean-append (word ++ spot_text spot) (codes " ") (clean-append word (spot_text spot) h (clean_spot spot)) refl) k

pub clean_fault : (f : RecordFault) → Clean (record_fault_text f)
clean_fault fault.Json = refl
clean_fault (fault.Member m) = clean_key m
clean_fault (fault.Name spot place) = clean_at (codes "name ") spot (decimal place) refl (clean_decimal place)
clean_fault (fault.Attribute spot a) = clean_at (codes "attribute ") spot (attribute_name a) refl (clean_attribute a)
clean_fault fault.TooDeep = refl
clean_fault fault.Memory = refl

-- the line of a refusal, without its newline
abbrev pub refused_line : ℕ → List ℕ → List ℕ
refused_line number reason = codes "refused " ++ decimal number ++ codes " " ++ reason

pub clean-refused_line : (number : ℕ) (reason : List ℕ) → Clean reason → Clean (refused_line number reason)
clean-refused_line number reason h =
    clean-append (codes "refused " ++ decimal number ++ codes " ") reason (clean-append (codes "refused " ++ decimal number) (codes " ") (clean_decimal number) refl) h

-- a text that begins with the letter r is no JSON
no_json : (more : List ℕ) → read (114 ∷ more) ≡ None
unfolding lex punctuate word after_number value
no_json more = refl

-- the record that a value of JSON is
abbrev record_in : Data → Result Record RecordFault
record_in d = word_at record_kind_of member.Do d >>= λ v. format_at d >>= λ f. record_by v f d

no_record : (more : List ℕ) → record_of (114 ∷ more) ≡ Err fault.Json
unfolding record_of
no_record more = ap (λ value. record_json_of value >>= record_in) (line_refused (114 ∷ more) (λ u. no_json more))

no_bytes : read [] ≡ None
unfolding lex punctuate value
no_bytes = refl

pub no_bytes_no_record : record_of [] ≡ Err fault.Json
unfolding record_of
no_bytes_no_record = ap (λ value. record_json_of value >>= record_in) (line_refused [] (λ u. no_bytes))

pub refused_edits : (rows : Rows) (number : ℕ) (reason : List ℕ) → (b : Bool) → line_edited rows (if b then Some (refused_line number reason) else None) ≡ rows
refused_edits rows number reason true = ap (edited rows) (no_record _)
refused_edits rows number reason false = refl
